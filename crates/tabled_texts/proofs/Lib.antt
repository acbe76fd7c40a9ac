pub mod Reading
pub mod Stores
