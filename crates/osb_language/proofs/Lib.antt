pub mod Spelling
pub mod Splitting
