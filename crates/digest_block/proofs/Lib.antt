-- One more round, and one more block.
mod Steps
