-- The definitions that a reader has to believe: a form with numbers in it, the summary and the plot, what is made of an
-- input and what is asked for; then forms that are computed, and what private functions cite.
pub mod Forms
pub mod Texts
pub mod Output
pub mod Arguments
pub mod Cases
pub mod Writing
