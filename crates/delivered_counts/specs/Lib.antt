-- What is claimed of the delivered counted power-up: demand 3 with a row of erase counts, and that its lists are there.
pub mod Demand
pub mod Witness
