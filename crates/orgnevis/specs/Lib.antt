pub mod Calls
pub mod Writes
