pub mod Xor
pub mod Division
pub mod Laws
pub mod Entries
pub mod Vectors
pub mod Meaning
