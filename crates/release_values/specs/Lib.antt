-- What a release sheet states.
pub mod Stated
