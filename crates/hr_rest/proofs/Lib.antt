mod AskingLemmas
mod ListingLemmas
mod NameLemmas
mod NumberLemmas
mod PageLemmas
mod PathLemmas
mod RaisingLemmas
mod SnapshotLemmas
