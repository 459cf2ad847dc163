-- A law over the definitions of a frame.
pub mod Direction
