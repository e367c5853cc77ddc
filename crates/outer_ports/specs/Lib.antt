pub mod Causes
pub mod Memory
pub mod MemoryWire
pub mod Ports
pub mod Wire
