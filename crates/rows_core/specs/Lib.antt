pub mod Patterns
pub mod Rows
pub mod Bindings
