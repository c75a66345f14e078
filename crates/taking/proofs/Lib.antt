pub mod Places
pub mod Took
