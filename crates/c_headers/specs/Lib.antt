-- The rows of a header's values and a tag.
pub mod Rows
