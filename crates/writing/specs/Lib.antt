pub mod Promise
pub mod Added
pub mod Before
