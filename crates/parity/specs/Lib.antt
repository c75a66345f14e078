pub mod Parity
pub mod Vectors
