-- The definitions that a reader has to believe, in the order of document 01, and the marked cases.
pub mod Set
pub mod Answers
pub mod State
pub mod Endings
pub mod Slots
pub mod Registers
pub mod Step
pub mod Refusals
pub mod Machine
pub mod Opened
pub mod Stories
pub mod Cases
