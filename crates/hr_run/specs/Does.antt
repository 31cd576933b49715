-- What an event does that is no finish, with its answers. (Our own, after Harbor's job service and
-- its task manager.)
use Rattle.std.specs.Prelude.{◌≡◌, ◌⊎◌, zero, suc, ℕ, List, [], ◌∷◌, ◌++◌, map, Option, Some, None, unwrap_or, option_map}
use Rattle.hr_base.specs.Merge.{joined}
use Rattle.hr_base.specs.declared.number.ExecNo.{ExecNo}
use Rattle.hr_base.specs.declared.number.JobNo.{JobNo}
use Rattle.hr_base.specs.declared.number.RegNo.{RegNo}
use Rattle.hr_event.specs.declared.cause.Cause.{Cause}
use Rattle.hr_event.specs.declared.event.Event.{Event}
use Rattle.hr_event.specs.declared.event.Event.TheVariants as event
use Rattle.hr_event.specs.declared.told.Told.{Told}
use Rattle.hr_event.specs.declared.told.Told.TheVariants as told
use Rattle.hr_adapter.specs.Calls.{shown_of}
use Rattle.hr_line.specs.State.{Link, State, link_at}
use Rattle.hr_promise.specs.Answer.{cause_in, cause_told, tag_told}
use Rattle.hr_store.specs.Execution.{ExecState, exec_view}
use Rattle.hr_store.specs.Row.{RowState}
use Rattle.hr_store.specs.Store.{exec_numbered, row_of_job}
use Rattle.hr_run.specs.State.{CoreState}
use Rattle.hr_run.specs.Triggering.{Triggers}
use Rattle.hr_run.specs.Turning.{FindsHeld, FindsNotOut, SettlesOut, StepsJob, StepsNone, TakesNone, TakesTurn}
use Rattle.hr_run.specs.Stopping.{FindsFinal, FindsNoJob, LooksAt, StopsJob}
use Rattle.hr_run.specs.Delivering.{Delivers, FindsNoHook, Forges, Sweeps, Waits}

-- ---- questions

-- the answer to a question for a job's row
abbrev pub row_told : JobNo → Option RowState → Told
row_told job None = told.NoRow job
row_told job (Some row) = told.RowIs job (joined row.received).0 (joined row.received).1

-- the answer to a question for an execution
abbrev pub exec_told : ExecNo → Option ExecState → Told
exec_told exec None = told.NoExec exec
exec_told exec (Some found) = told.ExecIs (exec_view found)

-- the first of two causes that is there
abbrev pub first_cause : Option (ℕ × Cause) → Option (ℕ × Cause) → Option (ℕ × Cause)
first_cause (Some found) other = Some found
first_cause None other = other

-- the newest cause of a job's errors, with its revision, by the journal of the lane that has one
abbrev pub cause_among : List State → ℕ → Option (ℕ × Cause)
cause_among [] job = None
cause_among (lane ∷ more) job = first_cause (cause_in lane.log job) (cause_among more job)

-- all connections of lanes, those of the first lane first
abbrev pub links_of : List State → List Link
links_of [] = []
links_of (lane ∷ more) = lane.sources ++ lane.dests ++ links_of more

-- the tags that a registry shows, as answers
abbrev pub tags_told : CoreState → RegNo → List Told
tags_told s reg =
    unwrap_or
    (option_map (λ r. map tag_told (shown_of r)) (link_at (links_of s.lanes ++ s.others) reg)) []

-- ---- each event but a finish

-- a hook by its number, from 1
abbrev pub DeliversNumber : CoreState → ℕ → Told → CoreState → Type 0
DeliversNumber s zero answer t = FindsNoHook s 0 answer t
DeliversNumber s (suc place) answer t =
    Delivers s place answer t ⊎ FindsNoHook s (suc place) answer t

-- one answer, of which this holds
abbrev pub One : (Told → Type 0) → List Told → Type 0
One P answers = (answer : Told) × (answers ≡ answer ∷ []) × P answer

-- a question changes nothing
abbrev pub Asks : CoreState → List Told → List Told → CoreState → Type 0
Asks s told answers t = (t ≡ s) × (answers ≡ told)

-- what an event does that is no finish, with its answers
abbrev pub DoesOne : CoreState → Event → List Told → CoreState → Type 0
DoesOne s (event.Trigger policy) answers t = One (λ answer. Triggers s policy answer t) answers
DoesOne s event.Take answers t = One (λ answer. TakesTurn s answer t ⊎ TakesNone s answer t) answers
DoesOne s (event.Step job) answers t =
    One (λ answer. StepsJob s job answer t ⊎ StepsNone s job answer t) answers
DoesOne s (event.Settle job) answers t = One (λ answer.
    SettlesOut s job answer t ⊎ (FindsNotOut s job answer t ⊎ FindsHeld s job answer t)) answers
DoesOne s (event.Stop job) answers t = One (λ answer.
    StopsJob s job answer t ⊎ (FindsFinal s job answer t ⊎ FindsNoJob s job answer t)) answers
DoesOne s (event.Deliver number) answers t =
    One (λ answer. DeliversNumber s number answer t) answers
DoesOne s (event.Forge hook) answers t = One (λ answer. Forges s hook answer t) answers
DoesOne s (event.Wait seconds) answers t = One (λ answer. Waits s seconds answer t) answers
DoesOne s (event.Sweep keep) answers t = One (λ answer. Sweeps s keep answer t) answers
DoesOne s (event.Tags reg) answers t = Asks s (tags_told s reg) answers t
DoesOne s (event.Row job) answers t =
    Asks s (row_told job (row_of_job job.0 s.store.kept) ∷ []) answers t
DoesOne s (event.Exec exec) answers t =
    Asks s (exec_told exec (exec_numbered exec.0 s.store.kept) ∷ []) answers t
DoesOne s (event.Word job rev) answers t =
    One (λ answer. LooksAt s job rev answer t ⊎ FindsNoJob s job answer t) answers
DoesOne s (event.CauseOf job) answers t =
    Asks s (cause_told job (cause_among s.lanes job.0) ∷ []) answers t
DoesOne s _ answers t = ⊥
