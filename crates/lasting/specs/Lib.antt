-- The definition that a reader has to believe: a refused call by its number.
pub mod Refused
