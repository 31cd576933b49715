pub mod Body
pub mod Message
pub mod Reply
pub mod Request
pub mod Written
pub mod Sendable
