pub mod Driver
pub mod ServiceWorld
