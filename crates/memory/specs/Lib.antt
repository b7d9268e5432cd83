pub mod Answers
pub mod Bounds
pub mod Faults
pub mod Layouts
