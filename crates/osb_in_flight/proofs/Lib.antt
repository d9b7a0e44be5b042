pub mod Keys
pub mod Indexes
