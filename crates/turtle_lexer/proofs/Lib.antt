pub mod Languages
pub mod NTriples
pub mod Derivatives
pub mod Lookahead
