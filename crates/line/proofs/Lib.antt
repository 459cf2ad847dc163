-- The laws that the proofs of this library and of those above it share.
pub mod Either
pub mod Levels
pub mod Filled
pub mod Places
pub mod Placed
pub mod First
pub mod Looked
