pub mod Automaton
pub mod Shape
pub mod Rows
