pub mod RowSteps
pub mod Matching
pub mod Bindable
pub mod Joining
pub mod Domains
