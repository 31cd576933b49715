pub mod CutLaws
pub mod CutLemmas
pub mod EscapeLaws
pub mod HexLaws
pub mod HexLemmas
pub mod NumberLaws
pub mod NumberLemmas
