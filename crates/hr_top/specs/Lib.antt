pub mod Answers
pub mod Checking
pub mod Command
pub mod Input
pub mod Outcome
pub mod Wording
