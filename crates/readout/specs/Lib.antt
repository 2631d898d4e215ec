pub mod Readout
pub mod Low
