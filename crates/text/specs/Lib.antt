pub mod Text
pub mod Digits
pub mod Labels
pub mod Adds
