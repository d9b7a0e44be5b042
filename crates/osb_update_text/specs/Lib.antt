pub mod HoldingText
pub mod RecordText
pub mod SettingsText
