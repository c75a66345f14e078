pub mod Ranges
pub mod Determined
pub mod Outcomes
pub mod NeverBack
pub mod FramesRead
pub mod Cases
