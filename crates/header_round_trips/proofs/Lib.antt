-- The proofs of the statements of specs/.
pub mod Numbers
pub mod Back
pub mod Again
pub mod Refusing
pub mod Marked
pub mod Critical
