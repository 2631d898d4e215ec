pub mod Promise
pub mod Searching
pub mod Words
pub mod Theorems
pub mod Rows
