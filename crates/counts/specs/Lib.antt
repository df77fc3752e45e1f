-- Document 02, "Erase counts for the service sheet", in its order: the row and the checks of it; what the counted calls do and answer; what is
-- claimed of them.
pub mod Row
pub mod Calls
pub mod Claims
pub mod Witness
