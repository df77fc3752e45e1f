-- What is claimed of the delivered call `mend`, request two of document 02: what a call gives, and demand 3 from the mended state.
pub mod Asked
pub mod Demand
-- What is gained beyond the request; that the calls are there.
pub mod Spoiled
pub mod Called
pub mod Witness
