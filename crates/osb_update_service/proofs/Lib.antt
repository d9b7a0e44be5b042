pub mod Follows
pub mod Services
pub mod Went
