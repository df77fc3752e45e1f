-- What is claimed of the delivered calls.
pub mod Demand
pub mod MarkedCases
pub mod Witness
pub mod PastFinish
pub mod Changed
