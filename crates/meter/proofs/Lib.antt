-- What the loops keep from turn to turn, and what working the figures out comes to.
pub mod Counting
pub mod Loops
pub mod Ends
