pub mod SomeText
pub mod PieceLemmas
pub mod Due
