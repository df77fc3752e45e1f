-- Document 01, "The flash", in its order. Its status bytes are in the crate flash_status, its sector flags in the crate flash_flags.
pub mod Sizes
pub mod Sectors
pub mod Buffers
-- what of it is taken, in other words
pub mod Taken
