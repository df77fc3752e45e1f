-- One flag byte written; the flag bytes passed so far
pub mod Pairs
pub mod Along
