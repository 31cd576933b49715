pub mod Bytes
pub mod Merge
pub mod Moment
pub mod Status
