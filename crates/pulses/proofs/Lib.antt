-- The laws of measured pulses: of a setting's ranges, of a pulse's symbol, and what a user relies on.
pub mod Ranges
pub mod Symbols
pub mod Relied
pub mod Example
