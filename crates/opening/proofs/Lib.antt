pub mod Ready
pub mod Closing
pub mod Slices
pub mod Determined
