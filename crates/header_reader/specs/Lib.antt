-- The header of document 01: what the reader makes of bytes.
pub mod Reading
pub mod Refusing
