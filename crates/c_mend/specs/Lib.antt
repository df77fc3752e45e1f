-- The row of what mending answers.
pub mod Rows
