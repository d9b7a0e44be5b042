pub mod Backend
pub mod Driver
pub mod World
pub mod Worker
