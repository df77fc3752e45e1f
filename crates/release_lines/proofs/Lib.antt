-- Laws of a sheet's lines, which the proofs of this crate and of its callers cite.
pub mod Reading
