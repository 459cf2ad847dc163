-- How a unit that holds its buffers stands for the state of the rules.
pub mod Unit
