pub mod Answer
pub mod Begun
pub mod Item
pub mod Listed
pub mod Mem
pub mod Operation
pub mod Shown
pub mod Standing
