pub mod Asking
pub mod Sizes
pub mod Noting
pub mod Tables
