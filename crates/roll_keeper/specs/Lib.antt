-- How the code keeps a roll, which private functions cite. What a roll is, is in `rolls`.
pub mod Keeping
