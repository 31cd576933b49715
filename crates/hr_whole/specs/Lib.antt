pub mod Calm
pub mod Copied
pub mod Said
pub mod Texts
pub mod Whole
