pub mod Cutting
pub mod Escaping
pub mod Hexadecimal
pub mod Number
pub use Rattle.hex.specs.Hex
