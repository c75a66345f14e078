pub mod Words
pub mod Plainly
