pub mod Rule
pub mod Seats
pub use Rattle.hr_board.specs.View
pub use Rattle.hr_board.specs.Moves
pub use Rattle.hr_board.specs.Plain
