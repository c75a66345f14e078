pub mod Calendar
pub mod Ranges
pub mod Days
