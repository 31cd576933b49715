pub mod MomentLemmas
pub mod PeriodicLemmas
pub mod ReadingLemmas
