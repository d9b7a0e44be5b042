pub mod Endings
pub mod Lines
pub mod Pieces
pub mod Rounds
pub mod Skipped
pub mod Telling
