pub mod Promise
pub mod Fits
