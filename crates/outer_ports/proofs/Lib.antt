pub mod KnownBytesLemmas
pub mod MemoryWireLemmas
pub mod OpenConnsLemmas
pub mod WireLemmas
