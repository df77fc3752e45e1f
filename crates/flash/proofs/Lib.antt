-- The laws of the flash, for the proofs of this crate and of those above it.
-- The rules of a geometry and of the lengths as facts; what the checks answer
pub mod Taken
pub mod Checked
pub mod Lent
pub mod Answers
-- parts of a list and writes over them; the write of a sector against every sector
pub mod Bytes
pub mod Laws
