pub mod Drivers
pub mod Readings
pub mod Transactions
