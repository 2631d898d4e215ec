pub mod Fitted
pub mod Bytes
pub mod Taking
