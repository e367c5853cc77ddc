pub mod Failing
pub mod Told
pub mod Counting
