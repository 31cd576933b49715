pub mod CallLaws
pub mod ContentLaws
mod EntryLemmas
pub mod HonestLaws
pub mod PutLaws
pub mod ShownLaws
mod SilentLemmas
