-- What follows from the contracts of a list run alone.
pub mod Called
pub mod Several
pub mod Alike
pub mod Rulings
