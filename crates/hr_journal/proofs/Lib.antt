mod AgreeLemmas
mod BackLemmas
mod ChangeLemmas
mod ClosedLemmas
mod GrowsLemmas
mod HonestLemmas
pub mod ListLaws
mod LogLemmas
mod OriginLemmas
mod PromiseLemmas
pub mod PromiseLaws
mod ReadLemmas
mod SourceLemmas
mod TextLemmas
