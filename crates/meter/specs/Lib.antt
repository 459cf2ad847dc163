-- What private functions cite.
pub mod Counting
