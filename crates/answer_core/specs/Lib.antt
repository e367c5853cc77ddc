pub mod Codes
pub mod Task
pub mod Headline
pub mod Queries
pub mod ReportText
pub mod Reported
pub mod Running
pub mod Sites
