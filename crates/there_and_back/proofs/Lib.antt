-- Laws of there and back: the update's finish starts the fallback; at rest; one power-up; the bound; every list; what is seen of it.
pub mod Cases
pub mod Halfway
pub mod Rest
pub mod Steps
pub mod Bound
pub mod Whole
