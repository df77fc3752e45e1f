-- Laws of the rules, for the proofs of this crate and of those above it.
-- What is next and what is decided, by what is read; runs of steps; lists of calls
pub mod Orders
pub mod Runs
pub mod Along
pub mod Seen
-- demand 3, from the bottom up: what holds after each move of the flags; where an exchange stands, and its single step; a run of steps;
-- what a stage shows; what the checks decided at the start, and decide at each stage; one power-up; every list of them
pub mod Sound
pub mod Touches
pub mod Stage
pub mod Walked
pub mod Shows
pub mod Accepted
pub mod Decided
pub mod Played
pub mod Whole
pub mod Reached
-- the marked cases 1 to 6; what the rules rule out; arm and confirm without power, and what their rules rule out
pub mod Cases
pub mod RuledOut
pub mod Commands
pub mod CommandsRuledOut
