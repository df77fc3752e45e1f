-- A lent part, erased and copied.
mod Lent
