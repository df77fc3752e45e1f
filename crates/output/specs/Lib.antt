-- What a write into a lent output leaves.
pub mod Puts
