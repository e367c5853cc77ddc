pub mod ByTheRules
pub mod Cuts
pub mod Marks
pub mod NoOtherResult
pub mod Refusing
pub mod Resolving
pub mod SegmentLemmas
