pub mod Grown
pub mod Rows
pub mod Lives
pub mod Sound
pub mod Always
pub mod Own
pub mod Example
