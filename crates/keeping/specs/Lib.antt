-- The definitions that a reader has to believe: where the bytes of a state lie, a state as bytes and back, the calls.
pub mod Layout
pub mod Encode
pub mod Decode
pub mod Calls
