pub mod Answering
pub mod Lists
pub mod Whole
pub mod Loops
