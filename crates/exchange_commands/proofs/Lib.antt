-- The checks of a command, and a command by what they answer.
pub mod Calls
