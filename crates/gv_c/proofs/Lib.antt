pub mod Pairs
pub mod Handles
pub mod Written
pub mod ListReadLemmas
pub mod Planning
