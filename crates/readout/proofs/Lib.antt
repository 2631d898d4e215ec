pub mod Marks
pub mod Chains
