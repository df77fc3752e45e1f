-- The proofs of the statements of specs/.
pub mod Signed
pub mod Good
pub mod Refusing
pub mod FromSheet
