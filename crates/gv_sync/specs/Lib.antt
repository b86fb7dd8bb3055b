pub mod Marks
pub mod Rule
pub mod Seats
pub mod Sights
pub mod Raises
pub mod SeatSteps
pub mod Laws
