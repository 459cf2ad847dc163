-- What is gathered of a lent list.
pub mod Gathered
