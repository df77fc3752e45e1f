-- The offered walker over a header's tags.
pub mod Walker
pub mod Claims
