pub mod Heard
pub mod Links
pub mod Wanted
