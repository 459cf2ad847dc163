-- The definitions that a reader has to believe: a frame's line, and all that is printed; then what private functions
-- cite.
pub mod Line
pub mod Dump
pub mod Writing
