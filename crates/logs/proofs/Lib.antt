-- The laws of a log: of its frames, of a frame's fields and data, of the marks, and what a user relies on.
pub mod Frames
pub mod Stray
pub mod Fields
pub mod Data
pub mod Readings
pub mod Headers
pub mod Marks
pub mod Again
pub mod Narrower
pub mod Attempts
pub mod Apart
pub mod Relied
pub mod Called
pub mod Example
