-- The laws that the loader's proofs cite.
-- Power-up by its first check
pub mod Calls
