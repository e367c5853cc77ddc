pub mod Results
pub mod Columns
