pub mod ComponentLaws
mod FrontLemmas
mod NameLemmas
mod ReachLemmas
mod TagLemmas
