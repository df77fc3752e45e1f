-- What is proved of a message in parts. Callers of other crates cite `Concatenation`, most often `absorbed` and `finished`.
pub mod Concatenation
mod Pending
mod Padding
mod Seam
