-- The laws that the proofs of this crate cite.
-- The counted arm by its first checks
pub mod Calls
