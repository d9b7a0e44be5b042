pub mod Outside
pub mod Broker
pub mod Always
