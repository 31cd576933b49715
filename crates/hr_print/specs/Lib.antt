pub mod Cause
pub mod Step
pub mod Text
pub mod Word
