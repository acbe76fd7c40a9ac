pub mod Lines
pub mod Marks
pub mod Reading
pub mod Texts
