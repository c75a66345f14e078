pub mod Passed
pub mod OneSide
