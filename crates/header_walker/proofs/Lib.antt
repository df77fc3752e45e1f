-- The claims of specs/Claims.antt.
pub mod Answers
pub mod Calls
