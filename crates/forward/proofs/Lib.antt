pub mod Visits
pub mod Bridge
pub mod Posing
pub mod Firsts
pub mod Near
pub mod Leading
