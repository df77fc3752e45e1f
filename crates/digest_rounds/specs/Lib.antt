-- The rounds on a window of 16 message words, and what is claimed of it.
pub mod Window
pub mod Claims
