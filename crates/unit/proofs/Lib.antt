-- The law that the proof of a step rests on.
pub mod Refusal
