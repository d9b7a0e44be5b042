pub mod Conflicts
pub mod Crossed
pub mod Faults
pub mod HeaderTexts
pub mod Members
pub mod Plans
pub mod Statuses
