pub mod Theorems
pub mod Demand
pub mod Answering
pub mod Steps
