-- The definitions that a reader has to believe, in the order of document 01.
pub mod Set
pub mod Frame
pub mod Slaves
pub mod Drive
pub mod Masters
pub mod Step
pub mod Cases
