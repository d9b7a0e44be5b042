pub mod Choices
pub mod Lines
pub mod Lives
pub mod Numbers
pub mod Orders
pub mod Verbs
