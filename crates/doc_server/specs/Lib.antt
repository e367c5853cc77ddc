pub mod Apart
pub mod HeadEnd
pub mod Writing
pub mod Peering
pub mod Words
pub mod Serving
pub mod Memory
