mod LineLemmas
mod HeadLemmas
pub mod LengthLemmas
pub mod LineStateLemmas
mod BodyLemmas
mod ReadingLemmas
mod Unique
mod Bound
mod Printed
mod PrintedHeads
mod Spelled
mod HeardLemmas
pub mod HeadsDecided
mod StaysDecided
