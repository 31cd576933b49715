-- The moves that each user of a board needs: a board may serve one of them and allow it no more.
-- (Our own.)
use Rattle.std.specs.Prelude.{⊤, IsTrue}
use Rattle.hr_base.specs.declared.status.Mark.TheVariants.{At}
use Rattle.hr_base.specs.declared.status.Status.{Status}
use Rattle.hr_base.specs.declared.status.Status.TheVariants.{Pending, Scheduled, Running, Stopped, Error, Success}
use Rattle.hr_base.specs.Status.{word_of}
use Rattle.hr_board.specs.View.{View}

-- the board allows moves to this status
abbrev pub AllowsStatus : View → Status → Type 0
AllowsStatus view status = IsTrue (view.allows (word_of (At status)))

-- the board allows what a lane does, which begins and ends revisions
pub record ServesLane (view : View) : Type 0 where
  pub begins : AllowsStatus view Running
  pub fails : AllowsStatus view Error
  pub succeeds : AllowsStatus view Success

-- the board allows what a queue does, which opens revisions
pub record ServesQueue (view : View) : Type 0 where
  pub first : AllowsStatus view Pending
  pub later : AllowsStatus view Scheduled

-- the board allows what a stop does
abbrev pub ServesStop : View → Type 0
ServesStop view = AllowsStatus view Stopped

-- the board allows what a reader does, which looks alone: each board does
abbrev pub ServesReader : View → Type 0
ServesReader view = ⊤
