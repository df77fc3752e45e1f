-- The row of a counted power-up and of a counted arm.
pub mod Rows
