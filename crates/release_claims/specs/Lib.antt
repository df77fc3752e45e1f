-- What holds of the reader of a release sheet.
pub mod FromLines
pub mod ReadsBack
pub mod Witness
