pub mod Created
pub mod Restart
pub mod Run
