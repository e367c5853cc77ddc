pub mod DotRules
pub mod Dots
pub mod Kept
pub mod Reference
pub mod Refusal
pub mod Resolution
pub mod Iris
pub mod Seen
