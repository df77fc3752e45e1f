-- The lines of a release sheet in their order, and where its values stand.
pub mod Judging
