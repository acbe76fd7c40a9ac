pub mod Elements
pub mod Ends
pub mod Laws
pub mod Limits
pub mod Looks
pub mod Written
