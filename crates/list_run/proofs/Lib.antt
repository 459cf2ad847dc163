-- The laws that the proofs of this library, and of those above it, share.
pub mod Underway
pub mod Spelled
