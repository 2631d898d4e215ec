pub mod Traces
pub mod Into
pub mod Bridge
pub mod Wanting
