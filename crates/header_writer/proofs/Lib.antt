-- Laws of bytes written one behind another.
pub mod Putting
pub mod Filled
