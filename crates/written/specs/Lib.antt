pub mod Runs
pub mod ComesBack
