-- The frames of a log, the fields and the data of a frame, the record of each, what reading a log comes to and what a
-- user relies on; then logs that are computed.
pub mod Frames
pub mod Fields
pub mod Data
pub mod Readings
pub mod Records
pub mod Log
pub mod Relied
pub mod Cases
