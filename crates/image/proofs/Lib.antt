-- Laws of the image check, which the proofs of this crate and of its callers cite.
pub mod Laws
pub mod Covered
pub mod Ordered
pub mod Changed
pub mod Verdicts
