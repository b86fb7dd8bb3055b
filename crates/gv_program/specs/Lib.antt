pub mod CommandLine
pub mod Fault
pub mod Refused
pub mod Rows
pub mod Run
pub mod Serving
pub mod Status
pub mod Task
