pub mod Window
pub mod Granted
