-- Document 02, "Mend lost flags": the flags of a mark are written and the bytes that differ are counted, in one pass over the flag bytes.
pub mod Wrote
pub mod Inner
