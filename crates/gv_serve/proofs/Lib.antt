pub mod AnsweredLines
pub mod AsRun
pub mod Partials
