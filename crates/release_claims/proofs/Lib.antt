-- The proofs of what specs/ claims.
pub mod OneLine
pub mod Once
pub mod Complete
pub mod Texts
pub mod Back
pub mod Witness
pub mod Writable
