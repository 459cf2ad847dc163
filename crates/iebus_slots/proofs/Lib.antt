-- What the proofs share: the slots of an input.
pub mod Slots
