-- Laws of the lines' judgement, which the proofs of this crate and of its callers cite.
pub mod Cutting
pub mod Walking
pub mod Along
