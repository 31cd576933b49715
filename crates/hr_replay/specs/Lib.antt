pub mod Connect
pub mod Replay
pub mod Script
pub mod Text
pub mod Success
