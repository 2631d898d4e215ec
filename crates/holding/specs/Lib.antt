pub mod Holding
pub mod Plans
