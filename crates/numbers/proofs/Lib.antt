-- Laws of claims over lists of cases, of refusals and of tests.
pub mod Every
pub mod Refusals
pub mod Tests
