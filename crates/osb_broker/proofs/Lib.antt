mod HeldLemmas
mod MemoryLemmas
pub mod Modes
