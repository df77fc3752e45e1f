-- What the standard says of its definitions.
pub mod Rules
