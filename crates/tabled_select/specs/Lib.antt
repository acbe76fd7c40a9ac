pub mod Algebra
pub mod Located
pub mod Locators
pub mod Marks
pub mod Selectors
pub mod Sets
pub mod Steps
pub mod Walks
