pub mod Ending
pub mod Script
pub mod Parts
pub mod ReadSoFar
pub mod Naming
pub mod Reading
pub mod Running
pub mod Inside
