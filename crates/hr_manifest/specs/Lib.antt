pub mod Canonical
pub mod Descriptor
pub mod Document
pub mod Manifest
pub mod Reading
pub mod Step
pub mod Writable
pub use Rattle.hr_text.specs.Escaping
