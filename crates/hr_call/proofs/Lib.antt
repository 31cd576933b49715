mod NameLemmas
mod ReadingLemmas
pub mod ReadingLaws
