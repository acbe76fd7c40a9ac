pub mod Keeping
pub mod Lines
pub mod Panels
pub mod RunSteps
pub mod Runs
pub mod SpanSteps
pub mod Spanned
pub mod Widths
