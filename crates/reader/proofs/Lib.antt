-- The laws that the reader's loops and writes go by.
pub mod Parts
pub mod Slots
pub mod Pasting
pub mod Endings
pub mod Heads
pub mod Texts
pub mod Entries
pub mod Records
pub mod Log
