pub mod Found
pub mod Part
pub mod Path
pub mod Query
pub mod Routing
pub mod Target
