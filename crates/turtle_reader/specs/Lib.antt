pub mod Grammar
pub mod Reading
pub mod Vocabulary
pub mod Words
pub mod Resolving
