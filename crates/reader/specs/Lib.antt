-- What private functions of the reader promise each other. The public contract rests on crate `logs` alone.
pub mod Reading
pub mod Endings
pub mod Heads
pub mod Texts
pub mod Entries
pub mod Records
