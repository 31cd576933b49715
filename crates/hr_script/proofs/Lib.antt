pub mod CaseLaws
pub mod MeaningLemmas
pub mod OneLemmas
pub mod ReadingLemmas
pub mod SplitLemmas
