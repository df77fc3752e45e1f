-- The numbers and rows of what power-up, arm and confirm answer.
pub mod Outcomes
