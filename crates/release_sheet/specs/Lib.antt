-- A release sheet: what its text states.
pub mod Reading
