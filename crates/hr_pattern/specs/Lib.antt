pub mod Choice
pub mod Component
pub mod Covers
pub mod Form
pub mod Item
pub mod Reading
pub mod Sign
