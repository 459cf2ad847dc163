-- What ties the run of the code to that of the definitions.
pub mod Run
