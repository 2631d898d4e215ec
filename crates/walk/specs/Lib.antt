pub mod Chosen
pub mod Leading
