-- Laws of the numbers and rows.
pub mod Filled
