pub mod Views
pub mod Names
pub mod Order
pub mod Truth
pub mod Value
pub mod Written
