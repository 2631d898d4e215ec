pub mod Writing
pub mod Beginning
pub mod Loading
pub mod Bridge
pub mod Moving
pub mod Ending
pub mod Replying
