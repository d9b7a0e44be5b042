pub mod Begun
pub mod Holdings
pub mod Instances
pub mod Outcomes
pub mod Requests
pub mod Settings
