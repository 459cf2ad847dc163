-- What a conversion comes to.
pub mod Ends
