pub mod Faults
pub mod Limits
pub mod Lines
pub mod Reading
pub mod Reads
pub mod Schedule
pub mod Sink
