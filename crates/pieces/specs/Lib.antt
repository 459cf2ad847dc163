-- A piece of a text, and decimal numbers; then texts that are computed.
pub mod Pieces
pub mod Decimal
pub mod Cases
