-- Laws of a sheet's values, which the proofs of this crate and of its callers cite.
pub mod Fitting
pub mod Answers
