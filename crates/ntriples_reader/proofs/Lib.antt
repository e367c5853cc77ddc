pub mod Documents
pub mod Loading
pub mod Readings
