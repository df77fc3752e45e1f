-- The writer of a header.
pub mod Writing
pub mod Filled
