pub mod Replayed
pub mod Text
