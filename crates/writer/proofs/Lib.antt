pub mod Refused
pub mod Determined
