pub mod PortLemmas
pub mod LanesLemmas
pub mod MemoryWebLemmas
pub mod SiteWebLemmas
