mod Cutting
pub mod Knowing
mod Passing
