pub mod Follow
pub mod Met
