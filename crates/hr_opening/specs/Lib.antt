pub mod Fit
pub mod Opening
pub mod Plan
pub mod Setup
pub mod Stored
