-- The proofs of the statements of specs/. An update whose mending is computed.
pub mod Computed
-- Marks, their order and the first that fits; the old images that a mark shows; the flags that are written; the bytes that differ
pub mod Order
pub mod Images
pub mod Written
pub mod Counted
-- the mark that is found; demand 3 from there, and what is gained
pub mod Found
pub mod Whole
