pub mod MemTree
pub mod Path
pub mod Tree
