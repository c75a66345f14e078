pub mod Stamping
pub mod Laws
