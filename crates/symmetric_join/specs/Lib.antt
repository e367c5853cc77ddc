pub mod Joins
pub mod Keys
pub mod Sides
pub mod Feeds
