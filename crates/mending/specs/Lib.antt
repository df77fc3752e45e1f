-- Request two of document 02, in its order: marks, the old images that a mark shows, the mending tool.
pub mod Marks
pub mod OldImages
pub mod Mending
-- What is claimed of them.
pub mod Mended
pub mod Witness
