pub mod List
pub mod Edit
pub mod Laws
pub mod Examples
