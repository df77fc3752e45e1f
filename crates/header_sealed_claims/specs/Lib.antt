-- What holds of sealed headers, and cases of them.
pub mod Claims
pub mod Cases
