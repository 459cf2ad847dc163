-- How the structs of the code stand for the state of the rules, what private functions promise each other, and the
-- plainest words.
pub mod Both
pub mod Plain
