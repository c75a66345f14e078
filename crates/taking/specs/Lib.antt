pub mod Take
pub mod View
pub mod Takes
