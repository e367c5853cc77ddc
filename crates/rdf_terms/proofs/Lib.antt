pub mod Members
pub mod Adding
pub mod Deciding
pub mod Escape
