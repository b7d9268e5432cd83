mod Judging
pub mod Reconciling
