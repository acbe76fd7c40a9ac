pub mod Pieces
pub mod References
