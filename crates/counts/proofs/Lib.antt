-- The laws of the row and of the counted calls.
-- The computed cases; the places; a row that is raised; the erases that are still to come in a run of steps; the other statements of
-- specs/Claims; a call by its first checks
pub mod Cases
pub mod Places
pub mod Rows
pub mod ToCome
pub mod Claimed
pub mod FirstChecks
