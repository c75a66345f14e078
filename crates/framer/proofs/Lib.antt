pub mod Ready
pub mod Account
pub mod Turns
pub mod Slices
pub mod Handing
pub mod Totals
pub mod Determined
pub mod Bench
