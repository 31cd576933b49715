pub mod Doc
pub mod Node
pub use Rattle.serde_json.specs.Data
pub use Rattle.serde_json.specs.Find
pub use Rattle.serde_json.specs.Read
