pub mod RowNumbers
pub mod Holdings
pub mod Outcomes
pub mod Records
pub mod TextStatus
pub mod Works
