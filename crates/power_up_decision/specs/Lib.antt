-- The checks before the work: the numbers of their refusals, and what they answer.
pub mod Inner
