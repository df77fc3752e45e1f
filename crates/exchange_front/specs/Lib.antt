-- Document 02, "Keep the front": how the code moves the front; what is carried from operation to operation, and what is claimed of it.
pub mod Inner
pub mod Carried
