pub mod Step
pub mod Answers
pub mod Promises
pub mod Reached
pub mod Bench
