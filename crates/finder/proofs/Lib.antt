pub mod Demand
pub mod Written
pub mod Answering
pub mod Handed
pub mod Telling
