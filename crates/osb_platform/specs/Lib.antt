pub mod Mitigation
pub mod PlatformRow
pub mod SavedRecord
pub mod State
pub mod Statuses
