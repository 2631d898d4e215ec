pub mod Program
pub mod Masks
pub mod Limits
