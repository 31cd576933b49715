-- What the board, the queue, the store and the lanes keep to at every moment. (Our own.)
use Rattle.std.specs.List.{AllByRecursion}
use Rattle.hr_board.specs.Plain.{IsLawful}
use Rattle.hr_queue.specs.Whole.{IsWhole}
use Rattle.hr_promise.specs.Lane.{IsLaneSound}
use Rattle.hr_store.specs.Store.{AreOrdered, FailsBare}
use Rattle.hr_run.specs.State.{CoreState}

-- each of them is as it is at every moment
pub record IsSound (s : CoreState) : Type 0 where
  pub lawful : IsLawful s.board.words s.board.past
  pub whole : IsWhole s.turns
  pub ordered : AreOrdered 0 0 s.store.kept
  pub no_rows : AllByRecursion FailsBare s.store.kept
  pub lanes : AllByRecursion IsLaneSound s.lanes
