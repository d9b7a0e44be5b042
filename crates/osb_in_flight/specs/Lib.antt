pub mod Keys
pub mod Entries
