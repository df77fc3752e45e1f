-- SHA-256: the standard.
pub mod Sha256
pub mod Collision
