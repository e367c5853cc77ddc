pub mod Bags
pub mod Gains
pub mod Keying
pub mod Meetings
pub mod Places
pub mod Listing
pub mod Written
pub mod Feeding
