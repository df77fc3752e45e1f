-- What holds between the writer and the reader of a header, and cases of documents 01 and 02 on headers.
pub mod RoundTrips
pub mod Cases
pub mod Critical
