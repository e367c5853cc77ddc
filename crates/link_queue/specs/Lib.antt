pub mod LinkStates
pub mod Table
