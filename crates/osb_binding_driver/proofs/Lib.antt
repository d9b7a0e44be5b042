pub mod Lives
pub mod Steps
pub mod Always
