pub mod Agreement
pub mod Cell
pub mod Life
pub mod Possible
pub mod Rounds
pub mod Steps
