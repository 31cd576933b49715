pub mod Calls
pub mod Edges
pub mod MemSink
pub mod MemSource
pub mod Stream
