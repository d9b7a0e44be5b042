pub mod Requests
pub mod Asking
pub mod Events
pub mod Transactions
pub mod Kept
pub mod Always
pub mod Modes
