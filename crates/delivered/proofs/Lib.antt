-- The proofs of the statements of specs/.
pub mod Delivered
pub mod Called
pub mod PastFinish
pub mod Started
pub mod Changed
