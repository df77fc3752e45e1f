-- What is made of a firmware and a release sheet's values is a good image, from the sheet on; when the making refuses.
pub mod Made
pub mod FromSheet
pub mod Refuses
