-- The definition that a reader has to believe: what is printed for an input.
pub mod Printed
