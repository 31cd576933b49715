-- The rounds of a finish: each takes a turn to its end, or the moment on. (Our own, after Harbor's
-- job service.)
use Rattle.std.specs.Prelude.{◌≡◌, ◌⊎◌, ℕ, Bool, true, false, slice_get, Some}
use Rattle.std.specs.List.{Contains}
use Rattle.hr_base.specs.declared.number.JobNo.{JobNo}
use Rattle.hr_event.specs.declared.task.Turn.{Turn}
use Rattle.hr_event.specs.declared.told.Told.{Told}
use Rattle.hr_queue.specs.declared.answer.Taken.{Taken}
use Rattle.hr_queue.specs.declared.answer.Taken.TheVariants as taken
use Rattle.hr_run.specs.Finish.{RunsOn, RunsOut, RunsTurn, StepsOut}
use Rattle.hr_run.specs.Ready.{IsReady}
use Rattle.hr_run.specs.Run.{StepsSome, TakeCut}
use Rattle.hr_run.specs.Sound.{IsSound}
use Rattle.hr_run.specs.State.{CoreState}
use Rattle.hr_run.specs.Turning.{GoesOut, NoneHolds, SettlesOut, TakesTurn}

-- a turn was taken and its revision admitted: it is out, and the core is ready for its calls
pub record Begins (s : CoreState) (turn : Turn) (t : CoreState) : Type 0 where
  pub answer : Told
  pub takes : TakesTurn s answer t
  pub same : takes.turn ≡ turn
  pub ready : IsReady t
  pub sound : IsSound t
  pub out : Contains t.turns.out turn

-- the next turn was taken, where one is due, and begun; else nothing was done
abbrev pub BeginsNext : CoreState → Taken → CoreState → Type 0
BeginsNext s (taken.Turn turn) t = Begins s turn t
BeginsNext s came t = (t ≡ s) × GoesOut s came s

-- a job was stepped until no lane holds it, and its turn is still out
pub record StepsAway (s : CoreState) (turn : Turn) (t : CoreState) : Type 0 where
  pub steps : StepsOut turn.job s t
  pub none : NoneHolds t.lanes turn.job
  pub ready : IsReady t
  pub out : Contains t.turns.out turn

-- one round: a turn was taken to its end, or one that was out, or the moment moved to that of the
-- next turn
abbrev pub RunsRound : CoreState → CoreState → Type 0
RunsRound s t = RunsTurn s t ⊎ (RunsOut s t ⊎ RunsOn s t)

-- a round was run, or nothing is left
abbrev pub RoundCame : CoreState → Bool → CoreState → Type 0
RoundCame s true t = RunsRound s t
RoundCame s false t = (t ≡ s) × GoesOut s taken.Idle s

-- a round was cut short: its turn is out, and not begun; or begun, and its job stepped some times;
-- or the job of a turn that was out was stepped some times
pub data RoundCut (s t : CoreState) : Type 0 where
  taking : TakeCut s t → RoundCut s t
  turning : (u : CoreState) (answer : Told) (takes : TakesTurn s answer u) → IsSound u
      → StepsSome takes.turn.job u t → RoundCut s t
  stepping : (turn : Turn) → slice_get s.turns.out 0 ≡ Some turn → StepsSome turn.job s t
      → RoundCut s t

-- turns are out, and none is left to be taken
abbrev pub IsBusy : CoreState → Type 0
IsBusy s = (out : ℕ) × GoesOut s (taken.Busy out) s

-- the turn of a job was given back, whatever became of it
abbrev pub GivesBack : CoreState → JobNo → CoreState → Type 0
GivesBack s job t = (answer : Told) × SettlesOut s job answer t
