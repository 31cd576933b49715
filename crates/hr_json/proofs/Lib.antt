mod DocLemmas
mod NodeLemmas
