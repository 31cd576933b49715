pub mod Link
pub mod Agent
pub mod MemLink
