-- Laws of the table's judgement, which the proofs of this crate and of its callers cite.
pub mod RuledOut
pub mod Understood
pub mod Judged
pub mod Before
pub mod Fitting
