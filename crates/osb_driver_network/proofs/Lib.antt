pub mod Outside
pub mod Always
