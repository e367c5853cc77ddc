pub mod FirstWord
pub mod LinksOfSeeds
pub mod Parsed
