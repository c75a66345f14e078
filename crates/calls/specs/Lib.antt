pub mod Made
pub mod Text
