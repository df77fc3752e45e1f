-- Lists of f 0, f 1, .., and the bytes of numbers.
pub mod First
pub mod Bytes
