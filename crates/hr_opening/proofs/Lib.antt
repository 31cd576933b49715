pub mod FitLaws
pub mod OpeningLaws
pub mod PlanLaws
mod JobsLemmas
mod KeptLemmas
mod LineLemmas
mod PlanLemmas
mod SetupLemmas
mod StoreLemmas
mod TakenLemmas
