-- The marks in their order, one after the other; the marks behind sector 0.
pub mod Turns
pub mod Behind
