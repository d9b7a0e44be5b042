pub mod Workers
pub mod Drivers
pub mod Transactions
pub mod Reads
