pub mod Thinning
pub mod Marks
pub mod Runs
