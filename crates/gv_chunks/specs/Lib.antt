pub mod Chunks
pub mod Inside
pub mod Starts
pub mod Examples
