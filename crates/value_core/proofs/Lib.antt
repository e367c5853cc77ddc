pub mod AfterLemmas
pub mod ScaledLemmas
