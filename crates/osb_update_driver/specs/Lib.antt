pub mod Driver
pub mod Rows
pub mod Worker
pub mod World
