pub mod Spots
pub mod Served
pub mod Pairs
