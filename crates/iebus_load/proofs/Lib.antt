-- The laws that the proofs share: of forms, of the curve, of what is asked for and of what is made of an input.
pub mod Woven
pub mod Curve
pub mod Inputs
