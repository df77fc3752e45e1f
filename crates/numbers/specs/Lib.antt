-- What every call of the library gives back, by document 01; and claims over lists of cases.
pub mod Answer
pub mod GivenBack
pub mod Every
