mod BackLemmas
mod DescriptorLemmas
mod EachLemmas
mod LongLemmas
mod PieceLemmas
mod PlainLemmas
pub mod ReadingLaws
mod ReadingLemmas
mod RoundTripLemmas
mod TextLemmas
mod ValueLemmas
