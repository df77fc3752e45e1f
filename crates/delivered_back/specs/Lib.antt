-- What is claimed of the delivered calls, there and back.
pub mod ThereAndBack
pub mod Witness
