mod EndingLemmas
mod HeadLemmas
mod ReplyLemmas
mod RequestLemmas
