-- The lines of a listing: a header's fields, and a refusal.
pub mod Lines
