-- The check of a firmware image.
pub mod Check
pub mod Ordered
pub mod Changed
pub mod Verdict
