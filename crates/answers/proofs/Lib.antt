-- What the proofs above this library need of an answer's word.
pub mod Words
