pub mod Calendar
pub mod Days
pub mod Ranges
