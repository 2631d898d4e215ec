pub mod Tests
pub mod Timed
pub mod Loop
pub mod Back
pub mod Passing
pub mod Packed
