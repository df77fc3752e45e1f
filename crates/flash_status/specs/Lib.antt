-- Document 01, "The flash": the status bytes.
pub mod StatusBytes
