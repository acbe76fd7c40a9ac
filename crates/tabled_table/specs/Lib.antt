pub mod Builder
pub mod Gathering
pub mod Given
pub mod Index
pub mod Printed
pub mod Table
