pub mod Asked
pub mod Modes
pub mod Objects
pub mod Received
pub mod Refusals
pub mod Sent
pub mod Targets
