pub mod Begun
pub mod Ended
pub mod Recorded
pub mod Reported
pub mod Settings
