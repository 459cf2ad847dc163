-- The laws that the proofs of this library share.
pub mod Values
pub mod Loss
