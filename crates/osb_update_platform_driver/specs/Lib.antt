pub mod Driver
pub mod World
