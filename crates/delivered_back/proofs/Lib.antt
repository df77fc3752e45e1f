-- There and back of the delivered calls: what is claimed of them; that the lists are there.
pub mod Calls
pub mod Counted
pub mod Called
pub mod Witnessed
