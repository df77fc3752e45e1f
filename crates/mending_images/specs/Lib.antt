-- The check of old images where they lie: what each of its functions answers.
pub mod Claims
pub mod Parts
pub mod Lent
