pub mod Query
pub mod Run
pub mod State
pub mod Order
pub mod Kept
pub mod Steps
pub mod Totals
pub mod Alone
