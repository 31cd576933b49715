pub mod Digest
pub mod Grammar
pub mod Order
pub mod Reading
pub use Rattle.hex.specs.Hex
pub use Rattle.sha2.specs.Sha256
