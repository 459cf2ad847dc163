-- That the statement follows from what a machine does at one word, what follows from the statement, and which machines
-- it holds of and which not.
pub mod Appended
pub mod Unwinding
pub mod Unwind
pub mod Ends
pub mod Leaks
pub mod Pins
pub mod Smallest
