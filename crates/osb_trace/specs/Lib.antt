pub mod Columns
pub mod Heard
pub mod Passing
pub mod Reasons
pub mod Settling
pub mod Telling
pub mod Trace
