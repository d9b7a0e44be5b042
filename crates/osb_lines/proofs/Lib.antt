pub mod Adding
pub mod Cutting
pub mod Explaining
pub mod Reading
pub mod Schedules
