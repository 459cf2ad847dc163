-- The laws that the proofs share: a piece written behind what stands in a text, and the listing's lines.
pub mod Pasting
pub mod Lines
