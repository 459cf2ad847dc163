-- The widths that the arguments say, and what is made of an input.
pub mod Arguments
pub mod Output
