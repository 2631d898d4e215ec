pub mod Boats
pub mod Codes
pub mod Table
pub mod Scans
pub mod Counting
pub mod Alike
pub mod Tallying
