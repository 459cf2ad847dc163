-- The definition that a reader has to believe: a refused run by its number.
pub mod Refused
