pub mod Link
pub mod MemDial
pub mod MemDoor
pub mod MemLink
