-- The laws that the proofs of this library share.
pub mod Changed
pub mod Joins
pub mod Listening
