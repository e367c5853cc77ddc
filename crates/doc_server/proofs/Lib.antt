pub mod HeadEnds
pub mod Held
pub mod Turning
pub mod Giving
