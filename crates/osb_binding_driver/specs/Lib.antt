pub mod ServiceWorld
pub mod Driver
