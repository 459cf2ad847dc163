-- How the code decides a contest, which private functions cite. What a contest comes to is in `contenders`.
pub mod Deciding
