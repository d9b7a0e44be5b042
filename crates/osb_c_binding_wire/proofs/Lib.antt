pub mod Faults
pub mod Lacks
pub mod ModeFaults
pub mod Numbers
pub mod Objects
pub mod ReadBack
