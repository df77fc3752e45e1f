-- The listing of a header: its text, and document 01's examples of it.
pub mod Listing
pub mod Examples
