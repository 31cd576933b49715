pub mod Canonical
pub mod Copyable
pub mod LineTexts
pub mod Worked
