-- The definitions that a reader has to believe: what all definitions are written with, figures, then in the order of
-- document 01; and the marked cases.
pub mod Choice
pub mod Numbers
pub mod Places
pub mod Slot
pub mod Parity
pub mod Cases
