-- The figures of a log and the largest of them, what working them out comes to and what a planner relies on; then logs
-- that are computed.
pub mod Figures
pub mod Load
pub mod Relied
pub mod Cases
