pub mod Decimals
pub mod Integers
pub mod Millionths
pub mod Numbers
pub mod Products
pub mod TotalOrder
