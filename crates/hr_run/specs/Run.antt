-- What an event does and what it leaves where memory is wanted in its middle, and events one after
-- the other. (Our own.)
use Rattle.std.specs.Prelude.{◌≡◌, suc, ℕ, true, false, List, [], ◌∷◌, ◌++◌, slice_get, Some}
use Rattle.hr_base.specs.declared.number.JobNo.{JobNo}
use Rattle.hr_base.specs.declared.number.PolicyNo.{PolicyNo}
use Rattle.hr_event.specs.declared.event.Event.{Event}
use Rattle.hr_event.specs.declared.event.Event.TheVariants as event
use Rattle.hr_event.specs.declared.task.Turn.{Turn}
use Rattle.hr_event.specs.declared.told.Told.{Told}
use Rattle.hr_event.specs.declared.told.Told.TheVariants as told
use Rattle.hr_queue.specs.declared.answer.Taken.TheVariants as taken
use Rattle.hr_run.specs.Sound.{IsSound}
use Rattle.hr_run.specs.State.{CoreState, was_delivered}
use Rattle.hr_run.specs.Triggering.{Reserves}
use Rattle.hr_run.specs.Turning.{GoesOut, StepsJob, TakesTurn}
use Rattle.hr_run.specs.Delivering.{Delivers}
use Rattle.hr_run.specs.Does.{DoesOne}
use Rattle.hr_run.specs.Finish.{Finishes, RunsRounds}

-- what an event does, with its answers
abbrev pub Does : CoreState → Event → List Told → CoreState → Type 0
Does s event.Finish answers t = Finishes s t × (answers ≡ told.Idle ∷ [])
Does s e answers t = DoesOne s e answers t

-- where a take is cut short, its turn is out
abbrev pub TakeCut : CoreState → CoreState → Type 0
TakeCut s t = (turn : Turn) × GoesOut s (taken.Turn turn) t

-- some of the hooks from a place, from 0, on were delivered
pub data DeliversSome : ℕ → CoreState → CoreState → Type 0 where
  ends : (place : ℕ) (s : CoreState) → DeliversSome place s s
  again : (place : ℕ) (s t : CoreState) → was_delivered s.delivered (suc place) ≡ true
      → DeliversSome (suc place) s t → DeliversSome place s t
  one : (place : ℕ) (s m t : CoreState) (answer : Told)
      → was_delivered s.delivered (suc place) ≡ false → Delivers s place answer m → IsSound m
      → DeliversSome (suc place) m t → DeliversSome place s t

-- a job was stepped some times
pub data StepsSome (job : JobNo) : CoreState → CoreState → Type 0 where
  rests : (s : CoreState) → StepsSome job s s
  step : (s m t : CoreState) (answer : Told) → StepsJob s job answer m → IsSound m
      → StepsSome job m t → StepsSome job s t

-- what an event leaves where memory is wanted in its middle: nothing was done, or some of what the
-- event does, in its order, or all of it, and there was no room for the answer
pub data Cut : CoreState → Event → CoreState → Type 0 where
  before : (s : CoreState) (e : Event) → Cut s e s
  behind : (s t : CoreState) (e : Event) (answers : List Told) → DoesOne s e answers t → Cut s e t
  reserved : (s t : CoreState) (policy : PolicyNo) → Reserves s t → Cut s (event.Trigger policy) t
  taken_out : (s t : CoreState) → TakeCut s t → Cut s event.Take t
  finished : (s t : CoreState) → Finishes s t → Cut s event.Finish t
  rounded : (s t : CoreState) → RunsRounds s t → Cut s event.Finish t
  taking : (s m t : CoreState) → RunsRounds s m → IsSound m → TakeCut m t → Cut s event.Finish t
  turning : (s m u t : CoreState) (answer : Told) (takes : TakesTurn m answer u) → RunsRounds s m
      → IsSound m → IsSound u → StepsSome takes.turn.job u t → Cut s event.Finish t
  stepping : (s m t : CoreState) (turn : Turn) → slice_get m.turns.out 0 ≡ Some turn
      → RunsRounds s m → IsSound m → StepsSome turn.job m t → Cut s event.Finish t
  delivering : (s m t : CoreState) → RunsRounds s m → IsSound m → GoesOut m taken.Idle m
      → DeliversSome 0 m t → Cut s event.Finish t

-- events one after the other, with their answers; one that is refused for memory has none, and
-- others may follow it
pub data Runs : CoreState → List Event → List Told → CoreState → Type 0 where
  ended : (s : CoreState) → Runs s [] [] s
  then : (s m t : CoreState) (e : Event) (events : List Event) (answers more : List Told)
      → Does s e answers m → IsSound m → Runs m events more t
      → Runs s (e ∷ events) (answers ++ more) t
  cut : (s m t : CoreState) (e : Event) (events : List Event) (more : List Told)
      → Cut s e m → IsSound m → Runs m events more t → Runs s (e ∷ events) more t
