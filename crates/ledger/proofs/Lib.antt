pub mod Knowing
pub mod ReclaimsExactly
