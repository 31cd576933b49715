mod BodyLemmas
mod MessageLemmas
mod ReplyLemmas
mod RequestLemmas
mod WrittenLemmas
mod LawLemmas
mod BackLemmas
