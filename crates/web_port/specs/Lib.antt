pub mod Counts
pub mod Flights
pub mod Port
pub mod Settings
pub mod Lanes
pub mod MemoryWeb
pub mod MemoryLinks
pub mod SiteWeb
