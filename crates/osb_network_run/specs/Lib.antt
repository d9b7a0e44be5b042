pub mod Faults
pub mod Network
pub mod Settling
pub mod Tally
