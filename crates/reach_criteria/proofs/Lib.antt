pub mod Meeting
pub mod Targets
