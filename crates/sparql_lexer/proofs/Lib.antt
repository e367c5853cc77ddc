pub mod Derivatives
pub mod Lookahead
pub mod Query
