pub mod Dues
pub mod Ends
pub mod Fitting
pub mod HoldingBack
pub mod RecordBack
pub mod Waiting
