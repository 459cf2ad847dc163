-- The laws that the proofs share.
pub mod Tables
pub mod Digits
pub mod Written
pub mod Frames
pub mod Texts
pub mod Fits
