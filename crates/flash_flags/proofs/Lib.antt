-- The laws of the trailer sector, for the proofs of this crate and of those above it.
-- The place of the flags; half bytes
pub mod Room
pub mod Halves
-- the loops over the flags; what the flags show; each write against every sector, flag and status byte; flags that move on; the front
pub mod Scan
pub mod Shown
pub mod Laws
pub mod Moves
pub mod Front
