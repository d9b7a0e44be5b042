pub mod Catalogue
pub mod IdText
pub mod Messages
pub mod Plans
pub mod Words
