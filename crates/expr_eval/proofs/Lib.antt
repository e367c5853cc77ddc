pub mod BooleanLemmas
pub mod DigitLemmas
pub mod OrderLaws
pub mod OrderLemmas
pub mod PartLemmas
pub mod ValueLemmas
