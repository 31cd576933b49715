pub mod Adding
pub mod ByJob
pub mod Fate
pub mod Gains
pub mod Room
pub mod Rows
pub mod Settling
pub mod Taking
pub mod View
pub mod Whole
pub use Rattle.hr_board.specs.View as board
