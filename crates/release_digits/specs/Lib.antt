-- The digits of a release sheet's values.
pub mod Digits
