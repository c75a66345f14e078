pub mod Sizes
pub mod Verdicts
