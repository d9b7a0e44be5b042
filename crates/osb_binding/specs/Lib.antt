pub mod Answers
pub mod Begun
pub mod Requests
pub mod Texts
