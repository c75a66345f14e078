pub mod Message
pub mod Stamp
pub mod Step
pub mod Promises
pub mod Cases
pub mod NeverBack
pub mod FramesRead
