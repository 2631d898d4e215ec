pub mod Refusal
pub mod OutputError
