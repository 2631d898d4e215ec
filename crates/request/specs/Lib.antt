pub mod Promise
pub mod Layout
pub mod Met
pub mod Loading
pub mod Asking
pub mod Told
