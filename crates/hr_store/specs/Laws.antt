-- What follows from the calls of a store, for whoever states what holds of its jobs. (Our own.)
use Rattle.std.specs.Prelude.{◌≡◌, ◌≢◌, ◌⊎◌, ℕ, ◌+◌, ◌<◌, ◌≤◌, Bool, true, false, List, ◌∷◌, ◌++◌, slice_index, Option, Some, None}
use Rattle.std.specs.List.{Contains}
use Rattle.std.specs.Option.{option_map}
use Rattle.hr_base.specs.declared.status.Hook.{Hook}
use Rattle.hr_base.specs.declared.status.Status.{Status}
use Rattle.hr_base.specs.declared.status.Mark.TheVariants.{At}
use Rattle.hr_base.specs.Status.{word_of}
use Rattle.hr_board.specs.Over.{EndsJob, IsOver}
use Rattle.hr_board.specs.View.{View, Word, place_of}
use Rattle.hr_store.specs.Row.{RowState, is_over, with_hook}
use Rattle.hr_store.specs.Execution.{ExecState, has_ended}
use Rattle.hr_store.specs.Store.{StoreState, AreOrdered, exec_numbered, row_of_job}
use Rattle.hr_store.specs.Receiving.{TakesHook}
use Rattle.hr_store.specs.Sweeping.{ended_of, kept_by}

-- a sweep keeps an execution that has not ended, or after which fewer of its policy ended
abbrev pub Stays : ℕ → List ExecState → ExecState → List ExecState → Type 0
Stays keep older exec newer =
    (has_ended exec ≡ false) ⊎ (ended_of exec.policy.0 newer < keep)
    → Contains (kept_by keep (older ++ exec ∷ newer)) exec

-- and no other
abbrev pub Goes : ℕ → List ExecState → ExecState → List ExecState → Type 0
Goes keep older exec newer =
    AreOrdered 0 0 (older ++ exec ∷ newer) → has_ended exec ≡ true
    → keep ≤ ended_of exec.policy.0 newer
    → exec_numbered exec.exec (kept_by keep (older ++ exec ∷ newer)) ≡ None

-- the row of a job after a sweep is as before, or it was over and is gone
abbrev pub RowStays : ℕ → ℕ → List ExecState → Type 0
RowStays keep job execs =
    (row_of_job job (kept_by keep execs) ≡ row_of_job job execs)
    ⊎ ((row_of_job job (kept_by keep execs) ≡ None)
    × ((row : RowState) → row_of_job job execs ≡ Some row → is_over row ≡ true))

-- a word that was not opened, or was stopped
abbrev pub IsUnopenedOrStopped : Word → Type 0
IsUnopenedOrStopped word = (word ≡ 0) ⊎ (word ≡ 4)

-- a later revision of a job is open only where the one before it is at Error
abbrev pub OpensInTurn : List Word → ℕ → Type 0
OpensInTurn words job =
    (rev : ℕ) → rev < 3 → slice_index words (place_of job (rev + 1)) ≢ 0
    → slice_index words (place_of job rev) ≡ 5

-- none of a job's revisions past its attempts was begun
abbrev pub NoneBegunPast : List Word → ℕ → ℕ → Type 0
NoneBegunPast words job attempts =
    (rev : ℕ) → attempts ≤ rev → rev ≤ 3
    → IsUnopenedOrStopped (slice_index words (place_of job rev))

-- a job is over by its words where its row ends it, the word of the row's revision is the row's status,
-- and the job's other words were opened in turn and not begun past its attempts
abbrev pub RowIsOver : List Word → ℕ → ℕ → ℕ → Status → Type 0
RowIsOver words job attempts rev status =
    OpensInTurn words job → NoneBegunPast words job attempts → 1 ≤ attempts → attempts ≤ 4 → rev ≤ 3
    → slice_index words (place_of job rev) ≡ word_of (At status)
    → EndsJob attempts (rev, status) → IsOver words job attempts

-- the hooks that the row of a job received, where it is kept
abbrev pub hooks_of_job : ℕ → List ExecState → Option (List Hook)
hooks_of_job job execs = option_map (λ row. row.received) (row_of_job job execs)

-- the row of the hook's job has the hook, and the others are as before
pub record PutsHook (execs : List ExecState) (hook : Hook) (after : List ExecState) : Type 0 where
  pub old : List Hook
  pub before : hooks_of_job hook.job.0 execs ≡ Some old
  pub here : hooks_of_job hook.job.0 after ≡ Some (with_hook old hook)
  pub elsewhere : (job : ℕ) → job ≢ hook.job.0
      → hooks_of_job job after ≡ hooks_of_job job execs

-- what takes a hook puts it
abbrev pub TakenIsPut : StoreState → View → Hook → Bool → StoreState → View → Type 0
TakenIsPut store board hook raised after board_after =
    TakesHook store board hook raised after board_after → PutsHook store.kept hook after.kept
