-- Mending by what its parts answered.
pub mod Calls
