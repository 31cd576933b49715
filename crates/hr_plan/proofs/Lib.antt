mod CallLemmas
mod NamingLemmas
mod OrderLemmas
pub mod PlanLaws
mod SameLemmas
mod TaskLemmas
