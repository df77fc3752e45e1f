-- The rows of what a release sheet states.
pub mod Rows
