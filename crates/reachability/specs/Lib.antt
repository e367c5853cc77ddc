pub mod Web
pub mod Reach
pub mod Record
