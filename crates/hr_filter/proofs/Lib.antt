mod FilterLemmas
mod GroupLemmas
mod NamingLemmas
mod SelectionLemmas
