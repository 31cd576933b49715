mod CloseLemmas
mod RuleLemmas
mod SeatsLemmas
mod StepLemmas
