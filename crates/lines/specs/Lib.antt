pub mod LineLaw
pub mod Lines
pub mod Spans
