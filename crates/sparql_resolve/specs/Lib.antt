pub mod Iris
pub mod Marks
pub mod Names
pub mod Resolving
pub mod Words
