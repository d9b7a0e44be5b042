pub mod Rows
pub mod Grown
pub mod Sent
pub mod Numbers
pub mod Sound
pub mod Always
pub mod Own
