-- The laws that the proofs of this library share.
pub mod Parts
pub mod Taken
