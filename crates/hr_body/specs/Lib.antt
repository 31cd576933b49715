pub mod Chunked
pub mod Fault
pub mod Leading
pub mod Reading
pub mod Stage
