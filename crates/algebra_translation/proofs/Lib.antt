pub mod InScope
