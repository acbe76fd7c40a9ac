pub mod Copies
pub mod Does
pub mod Hints
pub mod Kept
pub mod Shapes
pub mod Tuples
pub mod Writes
