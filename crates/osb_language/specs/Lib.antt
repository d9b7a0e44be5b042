pub mod Conversions
pub mod Fields
pub mod Language
pub mod Limits
pub mod Spelling
pub mod Words
