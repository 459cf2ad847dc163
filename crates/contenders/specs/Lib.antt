-- The definitions that a reader has to believe, then the marked cases.
pub mod Contest
pub mod Cases
