-- What a C caller gets.
pub mod Digest
pub mod Headers
pub mod Walking
pub mod Loading
pub mod Releases
