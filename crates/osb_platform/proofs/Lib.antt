pub mod Ascending
mod LoadedRows
pub mod RowText
mod SavedRows
pub mod Sound
