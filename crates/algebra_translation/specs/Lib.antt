pub mod Views
pub mod Translation
