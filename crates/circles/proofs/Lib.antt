-- The laws of a circle: as a list, by its places, after any calls; and of TBF and RBF after a word.
pub mod Circle
pub mod Places
pub mod Turns
pub mod Words
pub mod Read
