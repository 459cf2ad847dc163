-- The roll by its numbers, what the loops keep from turn to turn, and what each call comes to.
pub mod Numbers
pub mod Loops
pub mod Ends
