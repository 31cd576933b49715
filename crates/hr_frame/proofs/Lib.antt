mod LengthLemmas
mod NamedLemmas
