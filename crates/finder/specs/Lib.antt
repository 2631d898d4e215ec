pub mod Promise
pub mod Searching
pub mod Demand
