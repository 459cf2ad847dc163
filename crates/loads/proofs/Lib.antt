-- The laws of a log's figures: of the count in a window, of the largest figure, and what a planner relies on.
pub mod Windows
pub mod Peaks
pub mod Relied
pub mod Example
