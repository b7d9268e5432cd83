pub mod Classes
pub mod Rows
pub mod Slots
