pub mod ResponseLemmas
pub mod LaneLemmas
pub mod ConnLemmas
