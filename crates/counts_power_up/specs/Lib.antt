-- The counted power-up: what it promises.
pub mod Delivered
