pub mod Promise
pub mod Reading
pub mod Outcomes
pub mod Walk
pub mod Whole
pub mod Cursor
pub mod Fit
pub mod Same
