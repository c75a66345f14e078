pub mod Refused
pub mod Kept
pub mod Plainly
