mod BackLemmas
mod EndingLemmas
mod ListingLemmas
mod PathLemmas
mod PlainLemmas
mod QueryLemmas
