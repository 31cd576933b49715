-- What running a script gives. (Our own.)
use Rattle.std.specs.Prelude.{◌≡◌, ◌⊎◌, List, ◌∷◌, [], ◌++◌, Some, None, IsSome, ℕ}
use Rattle.std.specs.List.{Contains}
use Rattle.hr_base.specs.Bytes.{ByteList, Text}
use Rattle.hr_event.specs.declared.event.Event.{Event}
use Rattle.hr_event.specs.declared.event.Event.TheVariants.{Finish}
use Rattle.hr_event.specs.declared.told.Told.{Told}
use Rattle.hr_adapter.specs.Content.{Content, Honest}
use Rattle.hr_adapter.specs.Reg.{Reg}
use Rattle.hr_copyable.specs.Canonical.{AreCanonical}
use Rattle.hr_copyable.specs.Copyable.{HasOneText, IsCopyable}
use Rattle.hr_copyable.specs.LineTexts.{StoreOneText}
use Rattle.hr_line.specs.Orderly.{placement}
use Rattle.hr_line.specs.Run.{AreComplete}
use Rattle.hr_line.specs.State.{State, link_at}
use Rattle.hr_opening.specs.Plan.{plan_of}
use Rattle.hr_opening.specs.Setup.{Setups, setup_in}
use Rattle.hr_print.specs.Text.{texts_of}
use Rattle.hr_run.specs.Arrives.{AskForAll, ExecsSucceed, IsTaskCopied, RunsThrough, WantedMemory}
use Rattle.hr_run.specs.Claims.{AllConfirmed, AllDone, LanesHold, OneEach, OneFinal, RowsTell}
use Rattle.hr_run.specs.State.{CoreState}
use Rattle.hr_store.specs.Row.{RowState}
use Rattle.hr_store.specs.Store.{row_of_job}
use Rattle.hr_replay.specs.Connect.{TARGET, first_core, first_lane}
use Rattle.hr_replay.specs.Script.{IsScript}
use Rattle.hr_replay.specs.declared.ending.Ending.{Ending}

-- nothing is kept
abbrev pub IsNothing : Ending → Type 0
IsNothing kept = kept.core ≡ None

-- what is kept is a core at this state
abbrev pub IsKept : CoreState → Ending → Type 0
IsKept s kept = kept.core ≡ Some s

-- 0 where each execution that is kept succeeded, else 7
abbrev pub HasStatus : CoreState → ℕ → Type 0
HasStatus s status =
    (ExecsSucceed s × (status ≡ 0)) ⊎ ((ExecsSucceed s → ⊥) × (status ≡ 7))

-- these events were run by a core that began so, one after the other, with answers of this text
pub record IsRun (first : CoreState) (events : List Event) (kept : Ending) (text : Text)
    (status : ℕ) : Type 0 where
  pub told : List Told
  pub after : CoreState
  pub runs : RunsThrough first events told after
  pub says : text ≡ texts_of told
  pub keeps : IsKept after kept
  pub ends : HasStatus after status

-- registry 2 opens with everything under its own digest, no tag of any registry is to be moved, and
-- no digest stands for two texts of all that they open with
pub record OpensClear (opens : Setups) : Type 0 where
  pub honest : Honest (setup_in opens 2).content
  pub moves : (reg : ℕ) → (setup_in opens reg).moves ≡ []
  pub once : HasOneText opens

-- each tag that was put at registry 2, and names that manifest still, names one whose graph is there
abbrev pub StandsWhole : CoreState → Type 0
StandsWhole now = (lane : State) (seen : Reg) (c : Content) → Contains now.lanes lane
    → link_at lane.dests TARGET ≡ Some seen → seen.told ≡ Some c
    → AreComplete (placement TARGET lane.admitted) lane.log c

-- what operators rest on, of a core over registries that open so: all that holds of its lane; each
-- tag that was put stands whole, where they open clear; each final status that is named for a
-- revision, by an entry, by a hook that was emitted or by one that was received, is its word; each
-- final word has one hook, and one entry where a lane gave it; each hook that a row received is
-- covered by its word, and each row at a final status tells its word
pub record IsReliable (opens : Setups) (now : CoreState) : Type 0 where
  pub lanes : LanesHold (first_lane opens ∷ []) now.lanes
  pub whole : OpensClear opens → StandsWhole now
  pub final : OneFinal now
  pub each : OneEach now
  pub confirmed : AllConfirmed now
  pub rows : RowsTell now

-- neither the repositories of registry 1 nor the tags of one of them are more than may be listed
abbrev pub IsListed : Setups → Type 0
IsListed opens = IsSome (plan_of (setup_in opens 1).content)

-- all succeeded, or a revision ended by want of memory
abbrev pub EndsWell : CoreState → ℕ → Type 0
EndsWell now status = (status ≡ 0) ⊎ WantedMemory now.lanes

-- the task of each row that is kept was copied
abbrev pub AreTasksCopied : CoreState → Type 0
AreTasksCopied now = (job : ℕ) (row : RowState) → row_of_job job now.store.kept ≡ Some row
    → IsTaskCopied now job row.spec

-- the text is a script, whose events were run one after the other, with answers of this text; what
-- operators rest on holds at the end, as after each front of the events; after each finish all jobs
-- are over and each row is where its word is; with the status 0 the task of each row was copied; and
-- where all that stands in the registries can be copied, as it can where canonical lines stored it,
-- and the events ask for all of it, the status is 0, or memory was wanting
pub record IsReplayed (script : ByteList) (kept : Ending) (text : Text) (status : ℕ) : Type 0 where
  pub opens : Setups
  pub events : List Event
  pub jobs : ℕ
  pub reads : IsScript script opens events jobs
  pub run : IsRun (first_core opens jobs) events kept text status
  pub always : (front behind : List Event) (answers : List Told) (mid : CoreState)
      → events ≡ front ++ behind → RunsThrough (first_core opens jobs) front answers mid
      → IsReliable opens mid
  pub done : (front behind : List Event) (answers : List Told) (mid : CoreState)
      → events ≡ front ++ Finish ∷ behind
      → RunsThrough (first_core opens jobs) (front ++ Finish ∷ []) answers mid → AllDone mid
  pub reliable : IsReliable opens run.after
  pub copied : status ≡ 0 → AreTasksCopied run.after
  pub arrives : IsCopyable opens → IsListed opens → AskForAll events → EndsWell run.after status
  pub canonical : AreCanonical reads.lines.lines → StoreOneText reads.lines.lines → IsListed opens
      → AskForAll events → EndsWell run.after status
