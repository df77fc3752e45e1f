-- Document 01, "The flash": the sector flags; document 02, "More sectors": where they stand; "Keep the front": the first that is not 0.
pub mod SectorFlags
pub mod InTrailer
pub mod Front
