pub mod Faults
pub mod Numbers
pub mod Sold
pub mod Written
