mod CrossedOf
mod Faults
