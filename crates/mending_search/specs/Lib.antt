-- The search for the first mark that fits: what its functions answer.
pub mod Search
