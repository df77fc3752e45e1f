-- The laws that the proofs of this crate cite.
-- The sector of the next operation; a step, with what it carries on; the loop of steps
pub mod Bounds
mod Steps
pub mod Runs
