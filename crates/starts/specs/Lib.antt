pub mod Promise
pub mod Highest
pub mod Lengths
