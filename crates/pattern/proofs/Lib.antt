pub mod Bound
pub mod Struck
pub mod Masked
pub mod Short
pub mod Extents
