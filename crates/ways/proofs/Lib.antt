pub mod Lanes
pub mod Right
pub mod Chosen
pub mod Filing
pub mod Thin
pub mod Stacked
