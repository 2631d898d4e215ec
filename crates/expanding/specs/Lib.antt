pub mod Backing
pub mod Undoing
pub mod Stepping
