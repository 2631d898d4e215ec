pub mod Parts
pub mod Beginnings
pub mod Tasks
pub mod Entries
pub mod RoundMasks
pub mod Standing
pub mod Compilation
