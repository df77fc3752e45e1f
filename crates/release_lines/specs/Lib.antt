-- The lines of a release sheet.
pub mod Search
pub mod Lines
