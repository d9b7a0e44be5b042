mod Each
mod Partly
mod Stepping
