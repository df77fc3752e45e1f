-- The proofs of the statements of specs/.
pub mod Sealing
pub mod Parts
pub mod Form
pub mod Claimed
pub mod Writer
pub mod Computed
