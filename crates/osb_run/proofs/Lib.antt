pub mod Ascending
pub mod Kept
pub mod Outs
pub mod Running
pub mod Runs
