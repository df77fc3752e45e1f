-- The laws that the proofs of this crate cite, and those above it.
-- What the rules order, by what the flags show; how the front follows; two steps, computed
pub mod Ordered
pub mod Follows
pub mod Taken
