-- The laws that the proofs of this crate cite.
-- The row beside the steps that are left
mod Counting
