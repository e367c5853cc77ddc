pub mod LinkLemmas
pub mod MediaLemmas
