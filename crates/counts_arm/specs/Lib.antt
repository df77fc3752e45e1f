-- The counted arm: what it promises.
pub mod Delivered
