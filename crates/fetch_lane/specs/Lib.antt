pub mod Responses
pub mod Lanes
pub mod Went
