-- What operators rest on, of the core at one moment. (Our own, after Harbor's job service and its
-- task manager.)
use Rattle.std.specs.Prelude.{◌≡◌, ◌≢◌, ℕ, ◌+◌, ◌<◌, ◌≤◌, true, List, [], slice_get, slice_index, Option, Some}
use Rattle.std.specs.List.{Contains, sum_by}
use Rattle.hr_base.specs.Merge.{joined}
use Rattle.hr_base.specs.declared.status.Hook.{Hook}
use Rattle.hr_base.specs.Status.{word_of}
use Rattle.hr_base.specs.declared.status.Status.{Status}
use Rattle.hr_base.specs.declared.status.Status.TheVariants.{Stopped}
use Rattle.hr_event.specs.declared.cause.Cause.{Cause}
use Rattle.hr_event.specs.declared.entry.Entry.{Entry}
use Rattle.hr_event.specs.declared.entry.What.TheVariants.{Ended}
use Rattle.hr_event.specs.declared.task.TaskSpec.{TaskSpec}
use Rattle.hr_event.specs.declared.told.Told.{Told}
use Rattle.hr_event.specs.declared.told.Told.TheVariants as told
use Rattle.hr_board.specs.Current.{IsCurrent}
use Rattle.hr_board.specs.Over.{EndsJob, IsOver}
use Rattle.hr_board.specs.Plain.{Plain}
use Rattle.hr_board.specs.View.{Place, Word, place_of}
use Rattle.hr_line.specs.State.{State}
use Rattle.hr_promise.specs.Holds.{LaneHolds, LaneRuns}
use Rattle.hr_store.specs.Laws.{hooks_of_job}
use Rattle.hr_store.specs.Row.{RowState}
use Rattle.hr_store.specs.Store.{row_of_job}
use Rattle.hr_run.specs.Holds.{CoveredBy}
use Rattle.hr_run.specs.State.{CoreState, hook_at, hook_place, spec_of, status_word, was_delivered}
use Rattle.hr_run.specs.Weight.{at, entry_weight, final_weight}

-- the word at a place
abbrev pub word_at : Plain → Place → Word
word_at board place = slice_index board.words place

-- each final status that an entry, an emitted hook or a received one names is the word of its
-- revision, and a later revision that is open has Error before it
pub record OneFinal (s : CoreState) : Type 0 where
  pub entries : (lane : State) (e : Entry) (status : Status) (cause : Option Cause)
      → Contains s.lanes lane → Contains lane.log e → e.what ≡ Ended status cause
      → word_at s.board (place_of e.job.0 e.rev) ≡ status_word status
  pub emitted : (hook : Hook) → Contains s.hooks hook → 4 ≤ status_word hook.status
      → word_at s.board (hook_place hook) ≡ status_word hook.status
  pub received : (job : ℕ) (heard : List Hook) (hook : Hook)
      → hooks_of_job job s.store.kept ≡ Some heard → Contains heard hook
      → 4 ≤ status_word hook.status → word_at s.board (hook_place hook) ≡ status_word hook.status
  pub opened : (job rev : ℕ) → rev < 3 → word_at s.board (place_of job (rev + 1)) ≢ 0
      → word_at s.board (place_of job rev) ≡ 5

-- how often the entries of a lane say that the revision at a place ended with the status of a word
abbrev pub ends_at : Place → Word → State → ℕ
ends_at place word lane = sum_by (entry_weight (final_weight (at place word))) lane.log

-- how many hooks tell that the revision at a place came to the status of a final word
abbrev pub hooks_at : Place → Word → List Hook → ℕ
hooks_at place word hooks = sum_by (final_weight (at place word)) hooks

-- each final word has one emitted hook, and each Error or Success one entry of a lane
pub record OneEach (s : CoreState) : Type 0 where
  pub told : (place : Place) → 4 ≤ word_at s.board place
      → hooks_at place (word_at s.board place) s.hooks ≡ 1
  pub ended : (place : Place) → 5 ≤ word_at s.board place
      → sum_by (ends_at place (word_at s.board place)) s.lanes ≡ 1

-- what is known of a hook: it is of this job, and its word covers it
pub record IsConfirmed (board : Plain) (job : ℕ) (hook : Hook) : Type 0 where
  pub of_job : hook.job.0 ≡ job
  pub small : hook.rev ≤ 3
  pub covered : CoveredBy hook.status (word_at board (hook_place hook))

-- each hook that a row received is covered by its word
abbrev pub AllConfirmed : CoreState → Type 0
AllConfirmed s = (job : ℕ) (heard : List Hook) (hook : Hook)
    → hooks_of_job job s.store.kept ≡ Some heard → Contains heard hook → IsConfirmed s.board job hook

-- what rows tell: a row at a final status tells the word of its revision, and a row that ends its
-- job is of one that is over
pub record RowsTell (s : CoreState) : Type 0 where
  pub final : (job : ℕ) (row : RowState) → row_of_job job s.store.kept ≡ Some row
      → 4 ≤ status_word (joined row.received).1
      → word_at s.board (place_of job (joined row.received).0)
      ≡ status_word (joined row.received).1
  pub over : (job : ℕ) (row : RowState) → row_of_job job s.store.kept ≡ Some row
      → EndsJob row.spec.attempts (joined row.received) → IsOver s.board.words job row.spec.attempts

-- an answer that tells a status of a revision tells its word: that of a row does at a final status
abbrev pub TellsWord : Plain → Told → Type 0
TellsWord board (told.Stopped job rev) = word_at board (place_of job.0 rev) ≡ status_word Stopped
TellsWord board (told.FinalAt job rev status) =
    word_at board (place_of job.0 rev) ≡ status_word status
TellsWord board (told.WordIs job rev mark) = word_at board (place_of job.0 rev) ≡ word_of mark
TellsWord board (told.RowIs job rev status) = 4 ≤ status_word status
    → word_at board (place_of job.0 rev) ≡ status_word status
TellsWord board _ = Unit {0}

-- nothing is left to do: no turn waits or is out, and each emitted hook was delivered
pub record IsFinished (s : CoreState) : Type 0 where
  pub waiting : s.turns.waiting ≡ []
  pub delayed : s.turns.delayed ≡ []
  pub out : s.turns.out ≡ []
  pub delivered : (number : ℕ) (hook : Hook) → hook_at s.hooks number ≡ Some hook
      → was_delivered s.delivered number ≡ true

-- each job that was made is over, each emitted hook was received where its job's row is kept, and
-- each such row is the last opened revision of its job, with its status
pub record AllDone (s : CoreState) : Type 0 where
  pub over : (job : ℕ) (spec : TaskSpec) → spec_of s.made job ≡ Some spec
      → IsOver s.board.words job spec.attempts
  pub heard : (number : ℕ) (hook : Hook) (heard : List Hook) → hook_at s.hooks number ≡ Some hook
      → hooks_of_job hook.job.0 s.store.kept ≡ Some heard → Contains heard hook
  pub current : (job : ℕ) (spec : TaskSpec) (heard : List Hook) → spec_of s.made job ≡ Some spec
      → hooks_of_job job s.store.kept ≡ Some heard
      → IsCurrent s.board.words job spec.attempts (joined heard)

-- each lane came from what it was by calls, one after the other
abbrev pub LanesRun : List State → List State → Type 0
LanesRun before after = (at : ℕ) (lane : State) → slice_get before at ≡ Some lane
    → (now : State) × (slice_get after at ≡ Some now) × LaneRuns lane now

-- each lane keeps what operators rest on
abbrev pub LanesHold : List State → List State → Type 0
LanesHold before after = (at : ℕ) (lane now : State) → slice_get before at ≡ Some lane
    → slice_get after at ≡ Some now → LaneHolds lane now
