pub mod Checks
pub mod PlaceLaw
pub mod Places
pub mod Soundness
pub mod Tables
