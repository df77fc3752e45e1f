-- The laws that the proofs of this crate cite.
-- The counted power-up by its first checks
pub mod Calls
