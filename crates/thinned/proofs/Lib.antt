pub mod Marking
pub mod Running
pub mod Sieves
