pub mod Sets
pub mod Steps
pub mod Moving
pub mod Posing
pub mod Replies
