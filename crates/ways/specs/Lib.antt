pub mod Ways
pub mod Filed
pub mod Stacked
