-- The bytes of a hash value.
mod Words
