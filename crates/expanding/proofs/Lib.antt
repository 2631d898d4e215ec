pub mod Bridge
pub mod Backs
pub mod Entries
pub mod Undone
