-- The laws that the proofs of this crate cite.
mod Inside
