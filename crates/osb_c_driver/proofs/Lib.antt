pub mod Possible
pub mod Crossing
pub mod Working
