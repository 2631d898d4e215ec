pub mod Stretches
pub mod Changes
pub mod Anyhow
