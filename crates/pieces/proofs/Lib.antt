-- The laws that the proofs of programs share: pieces behind each other, and the digits of a number that have been read.
pub mod Pieces
pub mod Digits
mod Joined
