-- The laws that the proofs of this crate cite.
-- The image check of BOOT, its error wrapped in a power-up's
mod Mapped
