pub mod Pieces
pub mod Lines
pub mod Grammar
pub mod Triples
pub mod Reading
pub mod Cursor
