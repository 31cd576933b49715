-- The row of a job: what it copies, and what is known of it by the hooks that it received. (Our own.)
use Rattle.std.specs.Prelude.{◌≡◌, ◌≢◌, ℕ, ◌+◌, ◌-◌, ◌*◌, ◌≤◌, nat_eq, Bool, true, false, ◌&&◌, if◌then◌else◌, List, [], ◌∷◌, ◌++◌}
use Rattle.std.specs.List.{AllByRecursion, count_by, list_any}
use Rattle.hr_base.specs.declared.status.Status.{Status}
use Rattle.hr_base.specs.declared.status.Status.TheVariants.{Stopped, Error, Success}
use Rattle.hr_base.specs.declared.status.Mark.TheVariants.{At}
use Rattle.hr_base.specs.declared.status.Hook.{Hook}
use Rattle.hr_base.specs.Status.{word_of}
use Rattle.hr_base.specs.Merge.{joined}
use Rattle.hr_event.specs.declared.task.TaskSpec.{TaskSpec}

-- a row: its job, what that copies, and the hooks that were received for it, in order
pub record RowState : Type 0 where
  pub job : ℕ
  pub spec : TaskSpec
  pub received : List Hook

-- the status that is known of a row: that of the join of its hooks
abbrev pub row_status : RowState → Status
row_status row = (joined row.received).1

-- two hooks are the same: of one job, one revision and one status
abbrev pub same_hook : Hook → Hook → Bool
same_hook hook other =
    nat_eq hook.job.0 other.job.0
    && (nat_eq hook.rev other.rev && nat_eq (word_of (At hook.status)) (word_of (At other.status)))

-- a hook is among these
abbrev pub is_among : List Hook → Hook → Bool
is_among hooks hook = list_any (λ other. same_hook other hook) hooks

-- these hooks, with one more where it is not among them
abbrev pub with_hook : List Hook → Hook → List Hook
with_hook hooks hook = if is_among hooks hook then hooks else hooks ++ hook ∷ []

-- the row after it received a hook
abbrev pub row_with : RowState → Hook → RowState
row_with row hook = record row { received = with_hook row.received hook }

-- the hooks tell more than those before them, or the same
abbrev pub RoseIf : Bool → List Hook → List Hook → Type 0
RoseIf true before after = joined after ≢ joined before
RoseIf false before after = joined after ≡ joined before

-- the number of a hook among the 24 that its job can have
abbrev pub hook_number : Hook → ℕ
hook_number hook = 6 * hook.rev + (word_of (At hook.status) - 1)

-- hooks of one job, each of a revision from 0 to 3, and each once
pub record OnceEach (job : ℕ) (hooks : List Hook) : Type 0 where
  pub of_job : AllByRecursion (λ hook. (hook.job.0 ≡ job) × (hook.rev ≤ 3)) hooks
  pub once : (number : ℕ) → count_by (λ hook. nat_eq (hook_number hook) number) hooks ≤ 1

-- a revision with this status ends a job of so many attempts: it succeeded, was stopped, or failed
-- as the last attempt
abbrev pub ends_job : ℕ → ℕ → Status → Bool
ends_job attempts rev Success = true
ends_job attempts rev Stopped = true
ends_job attempts rev Error = nat_eq (rev + 1) attempts
ends_job attempts rev other = false

-- a row is over: what is known of it ends its job
abbrev pub is_over : RowState → Bool
is_over row = ends_job row.spec.attempts (joined row.received).0 (joined row.received).1
