-- The making of a firmware's header.
pub mod Making
