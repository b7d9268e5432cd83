pub mod Joins
pub mod Splits
