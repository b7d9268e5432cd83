pub mod LineLaws
pub mod Spans
