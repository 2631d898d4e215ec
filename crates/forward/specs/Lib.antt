pub mod Posed
pub mod Firsts
pub mod Leads
