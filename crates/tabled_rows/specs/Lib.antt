pub mod Ahead
pub mod Evenness
pub mod Gave
pub mod Listed
pub mod Rows
pub mod Sources
pub mod Steps
pub mod Texts
