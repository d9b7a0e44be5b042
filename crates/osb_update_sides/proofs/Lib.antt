pub mod Arrivals
pub mod Ends
pub mod Kept
pub mod Later
pub mod Lives
pub mod Platform
pub mod Rounds
pub mod Taken
