pub mod Columns
pub mod Replay
pub mod Report
pub mod Seen
pub mod Trace
