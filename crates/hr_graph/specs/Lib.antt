pub mod Answered
pub mod Fields
pub mod Meeting
pub mod Reached
pub mod Run
pub mod Sound
pub mod Step
pub mod Walk
