pub mod Notes
pub mod Lines
