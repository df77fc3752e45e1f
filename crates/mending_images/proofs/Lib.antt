-- The old images in parts; the hash value from sector to sector, and the digest; what the headers state; when a mark fits, by both.
pub mod Pieces
pub mod Hashed
pub mod Stated
pub mod Fitting
