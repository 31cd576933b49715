mod BeginLemmas
pub mod BodyLaws
mod ChunkLemmas
mod GrammarLemmas
mod LeadingLemmas
mod LineLemmas
mod OutcomeLemmas
mod PlainLemmas
mod ReadingLemmas
mod TrailerLemmas
