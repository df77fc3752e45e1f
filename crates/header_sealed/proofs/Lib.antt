-- Laws of the first difference and of what the sealed calls answer, which the proofs of this crate and of its callers cite.
pub mod Differing
pub mod Answers
