-- Laws of digits, which the proofs of this crate and of its callers cite.
pub mod Laws
