-- SHA-256 of a message in parts, and what is claimed of it.
pub mod Parts
pub mod Claims
