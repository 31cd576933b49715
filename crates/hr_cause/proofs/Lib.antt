mod CallLemmas
mod SendingLemmas
mod SourceLemmas
pub mod StreamLaws
