mod GrammarLemmas
mod ReadingLemmas
