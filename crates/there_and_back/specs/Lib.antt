-- Document 02, "There and back": what is given back, where a list of power-ups from an accepted update can end, and what is claimed of it.
pub mod Journey
pub mod Cases
