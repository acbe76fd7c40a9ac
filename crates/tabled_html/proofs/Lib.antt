pub mod Attributes
pub mod Ends
pub mod Grids
pub mod Sent
pub mod Within
