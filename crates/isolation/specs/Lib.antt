-- The statement of demand 3: the words of a list, then two runs.
pub mod Words
pub mod Runs
