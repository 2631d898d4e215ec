pub mod Numbers
pub mod Demands
pub mod Searches
