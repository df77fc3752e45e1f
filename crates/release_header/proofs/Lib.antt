-- Laws of the making.
pub mod Answers
