-- The laws of a roll: of joining and leaving, of who is shown, of the bytes, and what a display relies on.
pub mod Changes
pub mod Made
pub mod Winner
pub mod Bytes
pub mod Relied
pub mod Example
