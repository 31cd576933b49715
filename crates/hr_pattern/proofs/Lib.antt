pub mod ChoiceLemmas
pub mod EscapeLemmas
pub mod FaultLemmas
pub mod CoversLemmas
pub mod FormLemmas
pub mod ReadingLemmas
pub mod SplitLemmas
pub mod NumberLemmas
