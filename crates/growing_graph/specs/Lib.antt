pub mod Places
pub mod Indexes
