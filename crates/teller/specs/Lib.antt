pub mod Words
pub mod Telling
pub mod Plain
