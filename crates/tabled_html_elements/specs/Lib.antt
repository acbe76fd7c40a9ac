pub mod Outcomes
pub mod Parts
pub mod Reading
pub mod Tags
pub mod Texts
