-- From the reader's answer to the listing, and the proofs of the statements of specs/.
pub mod Said
pub mod Marked
