-- What the single step requires and answers.
pub mod Lent
pub mod Inner
