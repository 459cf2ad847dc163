-- Words as bytes, and what is left over behind them; then words that are computed.
pub mod Words
pub mod Left
pub mod Cases
