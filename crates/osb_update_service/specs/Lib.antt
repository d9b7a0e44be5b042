pub mod Agreement
pub mod Steps
pub mod Tied
