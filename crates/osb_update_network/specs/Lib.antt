pub mod AnyPlatform
pub mod Promises
pub mod Reported
