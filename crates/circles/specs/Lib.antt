-- A circle of bytes, what is done to one, what a word does to the two of a unit, and cases that are computed.
pub mod Circle
pub mod Calls
pub mod Buffers
pub mod Cases
