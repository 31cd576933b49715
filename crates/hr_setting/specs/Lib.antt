pub mod Address
pub mod Member
pub use Rattle.hr_json.specs.Node
pub use Rattle.hr_text.specs.Cutting
pub use Rattle.url.specs.Parser
