pub mod Boats
pub mod Codes
pub mod Table
pub mod Counting
pub mod Promise
