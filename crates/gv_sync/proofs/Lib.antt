pub mod Shares
pub mod StepsKeepRule
pub mod Raised
pub mod SeatSteps
pub mod LookLemmas
