pub mod Pick
pub mod Sync
pub mod EndMark
pub mod Search
pub mod Window
