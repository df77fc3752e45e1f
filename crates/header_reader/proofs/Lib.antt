-- Laws of parts of a header and of the reader's answer, which the proofs of this crate and of its callers cite.
pub mod BytesAt
pub mod Answers
pub mod Refusing
pub mod Understood
