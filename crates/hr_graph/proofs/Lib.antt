mod AnsweredLemmas
mod ContainsLemmas
mod GiveLemmas
mod KnownLemmas
mod LastLemmas
mod ListLemmas
mod MeetingLemmas
mod ReachedLemmas
pub mod ReachedLaws
mod RunLemmas
mod SoundLemmas
mod StepLemmas
pub mod WalkLaws
