pub mod Rules
pub mod Within
pub mod Grow
