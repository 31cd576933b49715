-- A finish: it stands for a list of takes, steps and deliveries. (Our own, after Harbor's job
-- service.)
use Rattle.std.specs.Prelude.{◌≡◌, ◌≤◌, suc, ℕ, true, false, max, length, slice_get, Some}
use Rattle.hr_base.specs.declared.number.JobNo.{JobNo}
use Rattle.hr_base.specs.declared.number.Moment.{Moment}
use Rattle.hr_event.specs.declared.task.Turn.{Turn}
use Rattle.hr_event.specs.declared.told.Told.{Told}
use Rattle.hr_queue.specs.declared.answer.Taken.TheVariants as taken
use Rattle.hr_run.specs.Sound.{IsSound}
use Rattle.hr_run.specs.State.{CoreState, was_delivered}
use Rattle.hr_run.specs.Turning.{GoesOut, NoneHolds, SettlesOut, StepsJob, TakesTurn}
use Rattle.hr_run.specs.Delivering.{Delivers}

-- a job was stepped until no lane holds it
pub data StepsOut (job : JobNo) : CoreState → CoreState → Type 0 where
  gone : (s : CoreState) → NoneHolds s.lanes job → StepsOut job s s
  step : (s m t : CoreState) (answer : Told) → StepsJob s job answer m → IsSound m
      → StepsOut job m t → StepsOut job s t

-- a turn that is out was stepped out and given back
pub record Rounds (s : CoreState) (job : JobNo) (t : CoreState) : Type 0 where
  pub mid : CoreState
  pub steps : StepsOut job s mid
  pub answer : Told
  pub settles : SettlesOut mid job answer t

-- a turn was taken, stepped out and given back
pub record RunsTurn (s t : CoreState) : Type 0 where
  pub mid : CoreState
  pub answer : Told
  pub takes : TakesTurn s answer mid
  pub sound : IsSound mid
  pub rounds : Rounds mid takes.turn.job t

-- turns are out and none waits: that of the least job was stepped out and given back
pub record RunsOut (s t : CoreState) : Type 0 where
  pub out : ℕ
  pub busy : GoesOut s (taken.Busy out) s
  pub turn : Turn
  pub least : slice_get s.turns.out 0 ≡ Some turn
  pub rounds : Rounds s turn.job t

-- the first turn is due later: the moment became that one
pub record RunsOn (s t : CoreState) : Type 0 where
  pub due : Moment
  pub waits : GoesOut s (taken.Later due) s
  pub now : t.now ≡ max s.now due.0
  pub after : t ≡ record s { now = t.now }

-- rounds one after the other
pub data RunsRounds : CoreState → CoreState → Type 0 where
  none : (s : CoreState) → RunsRounds s s
  turn : (s m t : CoreState) → RunsTurn s m → IsSound m → RunsRounds m t → RunsRounds s t
  out : (s m t : CoreState) → RunsOut s m → IsSound m → RunsRounds m t → RunsRounds s t
  on : (s m t : CoreState) → RunsOn s m → IsSound m → RunsRounds m t → RunsRounds s t

-- each hook from a place, from 0, on that was not delivered yet was delivered, in order
pub data DeliversFrom : ℕ → CoreState → CoreState → Type 0 where
  all : (place : ℕ) (s : CoreState) → length s.hooks ≤ place → DeliversFrom place s s
  again : (place : ℕ) (s t : CoreState) → was_delivered s.delivered (suc place) ≡ true
      → DeliversFrom (suc place) s t → DeliversFrom place s t
  one : (place : ℕ) (s m t : CoreState) (answer : Told)
      → was_delivered s.delivered (suc place) ≡ false → Delivers s place answer m → IsSound m
      → DeliversFrom (suc place) m t → DeliversFrom place s t

-- all turns were taken to their ends, and all hooks delivered
pub record Finishes (s : CoreState) (t : CoreState) : Type 0 where
  pub mid : CoreState
  pub rounds : RunsRounds s mid
  pub idle : GoesOut mid taken.Idle mid
  pub delivers : DeliversFrom 0 mid t
