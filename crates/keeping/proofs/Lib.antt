-- What follows from the definitions: bytes give back the state that they keep, and calls one after the other are one
-- run, for which demands 1 and 3 hold.
pub mod Again
pub mod Fed
pub mod Rulings
