pub mod Compare
pub mod Text
