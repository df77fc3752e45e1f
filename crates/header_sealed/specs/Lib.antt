-- The sealed profile of a header, document 02, nine.
pub mod Profile
