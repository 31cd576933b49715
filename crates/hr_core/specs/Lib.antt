pub mod Row
pub mod Hooks
pub mod Lanes
pub mod Tags
pub mod Planning
pub mod Rounds
pub mod Comes
pub mod Marks
