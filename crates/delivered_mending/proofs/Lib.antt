-- The proofs of the statements of specs/.
pub mod Asked
pub mod Whole
pub mod Finish
pub mod Computed
