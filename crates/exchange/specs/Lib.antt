-- Document 01, "Power-up", in its order: the operations, the order in which they come, the checks before them, power-up, arm and confirm.
pub mod Base
pub mod Operations
pub mod Order
pub mod Decision
pub mod PowerUp
pub mod Commands
-- What is claimed of them: power lost in an operation, lists of calls, demand 3, what the rules rule out, the marked cases 1 to 6, what the
-- rules of arm and confirm rule out.
pub mod LostPower
pub mod Touches
pub mod Along
pub mod Demand
pub mod Reached
pub mod RuledOut
pub mod Cases
pub mod CommandsRuledOut
