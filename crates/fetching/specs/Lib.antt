pub mod Fetches
pub mod Knowing
pub mod Passages
