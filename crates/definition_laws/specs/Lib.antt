pub mod References
pub mod TokenTexts
pub mod Directives
pub mod Declarations
pub mod Blocks
pub mod TextLines
pub mod Cells
