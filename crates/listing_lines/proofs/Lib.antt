-- Laws of a number's digits, and of text written one part behind another.
pub mod Numbers
pub mod Putting
