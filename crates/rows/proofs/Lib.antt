pub mod BinaryDigits
pub mod Highest
