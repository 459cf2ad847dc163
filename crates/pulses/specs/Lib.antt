-- A setting's ranges, the symbol of a pulse, what a conversion comes to and what a user relies on; then pulses that are
-- computed.
pub mod Ranges
pub mod Symbols
pub mod Conversion
pub mod Relied
pub mod Cases
