-- Demand 3 of the counted power-up: one call, a list of calls; that the lists are there.
pub mod OneCall
pub mod Lists
pub mod Called
