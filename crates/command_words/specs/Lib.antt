pub mod Grammar
pub mod Ready
pub mod Values
pub mod Words
