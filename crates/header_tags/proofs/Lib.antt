-- Laws of the walk, which the proofs of this crate and of its callers cite.
pub mod Laws
pub mod Padding
pub mod Standing
pub mod Tested
pub mod Found
pub mod Same
