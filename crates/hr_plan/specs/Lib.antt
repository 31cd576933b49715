pub mod Lane
pub mod Listing
pub mod Naming
pub mod Plan
pub mod Tasks
