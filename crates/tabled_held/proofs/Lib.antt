pub mod SentBytes
pub mod Pens
pub mod Runs
