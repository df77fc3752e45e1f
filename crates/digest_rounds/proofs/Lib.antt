-- Laws of words, and what the window holds at each round.
pub mod Bits
pub mod Window
