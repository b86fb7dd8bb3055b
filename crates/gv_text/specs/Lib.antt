pub mod Reading
pub mod Script
pub mod AlikePlans
