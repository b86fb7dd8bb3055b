pub mod Arguments
pub mod Reading
