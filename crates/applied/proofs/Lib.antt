-- Stories, two lists and a desk.
pub mod Stories
pub mod Example
