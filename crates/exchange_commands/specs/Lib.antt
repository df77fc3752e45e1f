-- Arm and confirm: what they promise, and what their own functions answer.
pub mod Numbers
pub mod Inner
