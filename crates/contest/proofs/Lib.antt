-- What follows from the definitions of the contest, and what each loop keeps.
pub mod Places
pub mod Slots
pub mod Winner
pub mod Loops
pub mod Endings
