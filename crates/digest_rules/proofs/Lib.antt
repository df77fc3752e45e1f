-- A value of each claim.
pub mod Padding
pub mod Constants
pub mod Examples
