pub mod Filter
pub mod Grouping
pub mod Naming
pub mod Selection
