pub mod Answer
pub mod Arrives
pub mod Holds
pub mod Lane
pub mod Measure
