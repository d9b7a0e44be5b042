pub mod Crossed
pub mod Rows
pub mod Crosses
