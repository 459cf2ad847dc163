-- The definitions that a reader has to believe: a line, the last line, the whole listing; then what private
-- functions cite.
pub mod Hex
pub mod Last
pub mod Listing
pub mod Writing
