-- A step of a revision that was taken out of those that are held. (Our own.)
use Rattle.std.specs.Prelude.{◌≡◌, List, Option, Some, None, Result, Ok, Err}
use Rattle.hr_base.specs.declared.status.Hook.{Hook}
use Rattle.hr_base.specs.declared.status.Mark.{Mark}
use Rattle.hr_base.specs.declared.status.Status.{Status}
use Rattle.hr_event.specs.declared.cause.Cause.{Cause}
use Rattle.hr_event.specs.declared.entry.Entry.{Entry}
use Rattle.hr_board.specs.View.{View, place_of}
use Rattle.hr_line.specs.State.{HeldAfter, held_at}
use Rattle.hr_line.specs.Step.{Closes}
use Rattle.hr_line.specs.declared.answer.Stepped.{Stepped}
use Rattle.hr_line.specs.declared.answer.Stepped.TheVariants as stepped
use Rattle.hr_line.specs.declared.held.Admitted.{Admitted}
use Rattle.hr_line.specs.declared.held.Held.{Held}
use Rattle.hr_lane.specs.State.{written}
use Rattle.hr_lane.specs.Word.{ClosesWord}

-- a revision was taken out of those that were held: these are left
abbrev pub IsOut : Held → List Held → List Held → Type 0
IsOut h whole rest =
    (held_at whole h.by.job.0 ≡ Some h) × HeldAfter h.by.job.0 None whole rest

-- what a step answers where a revision was closed
abbrev pub closed_as : Result Status Mark → Stepped
closed_as (Ok status) = stepped.Ended status
closed_as (Err mark) = stepped.Lost mark

-- a revision was closed, and its word too
pub record Finishes (by : Admitted) (why : Option Cause) (log after : List Entry)
    (hooks given : List Hook) (v w : View) (answer : Stepped) : Type 0 where
  pub closed : Result Status Mark
  pub answers : answer ≡ closed_as closed
  pub closes : Closes by why (written log hooks) (written after given) closed
  pub word : ClosesWord v w (place_of by.job.0 by.rev) closed
