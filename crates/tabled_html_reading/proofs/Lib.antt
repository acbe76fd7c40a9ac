pub mod Bytes
pub mod Columns
pub mod Formed
pub mod Parsed
pub mod ReadBack
pub mod Rows
pub mod Slots
