pub mod Filled
pub mod ComesBack
