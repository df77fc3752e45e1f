-- The tags of a header, source 000's "TLV": how they are read and how they are written.
pub mod Walk
pub mod Padding
pub mod Standing
pub mod Bytes
