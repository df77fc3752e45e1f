-- Document 01, "The flash": copies.
pub mod Copying
