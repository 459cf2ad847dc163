-- The definitions that a reader has to believe: demand 1 for a list, the list run, the same over bytes; and computed
-- cases.
pub mod Rulings
pub mod Run
pub mod Bytes
pub mod Cases
