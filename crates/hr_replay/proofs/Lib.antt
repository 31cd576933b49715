mod ConnectLemmas
mod CopyableLemmas
mod RunLemmas
mod ScriptLemmas
