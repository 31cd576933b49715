pub mod LawfulLaws
mod MovesLemmas
mod OverLemmas
mod PastLemmas
mod PlainLemmas
mod StoppingLemmas
