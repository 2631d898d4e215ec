pub mod Marks
pub mod Led
pub mod Runs
pub mod Taken
