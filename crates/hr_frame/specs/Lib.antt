pub mod Framing
pub mod Length
pub mod Named
