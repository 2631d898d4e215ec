pub mod Bounds
pub mod Comparing
pub mod Standing
pub mod Masks
pub mod Bridge
