mod CalmLemmas
mod CauseLemmas
pub mod ChildLemmas
mod DestinationLemmas
mod EndLemmas
pub mod EvidenceLemmas
mod FinalLemmas
mod FinishLemmas
mod HookLemmas
mod KeptLemmas
mod LastLemmas
mod LaterLemmas
pub mod LineLemmas
mod LinkLemmas
mod ListLemmas
mod OrderlyLemmas
mod OriginLemmas
mod PutLemmas
mod RunLemmas
mod ShowLemmas
mod ShowLineLemmas
mod ShownLemmas
mod SourceLemmas
mod StandsLemmas
pub mod StepLemmas
mod WroteLemmas
