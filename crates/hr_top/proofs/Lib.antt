mod CheckingLemmas
mod CommandLemmas
