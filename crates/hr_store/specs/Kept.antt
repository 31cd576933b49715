-- The executions that a store keeps, in a map by their numbers, in order of creation. (Our own.)
use Rattle.std.specs.Prelude.{◌≡◌, ℕ, Bool, List, map, slice_get, slice_set, Some}
use Rattle.std.specs.List.{AllByRecursion}
use Rattle.hr_base.specs.declared.status.Hook.{Hook}
use Rattle.hr_store.specs.Execution.{ExecState, RowReceives}
use Rattle.hr_store.specs.declared.held.Held.{Held}

-- the executions of these entries
abbrev pub execs_in : List (ℕ × Held) → List ExecState
execs_in entries = map (λ entry. entry.1.execution) entries

-- each entry stands under the number of its execution
abbrev pub AreKeyed : List (ℕ × Held) → Type 0
AreKeyed entries = AllByRecursion (λ entry. entry.0 ≡ entry.1.execution.exec) entries

-- the row at a place of the execution at another received a hook
pub record ExecReceives (execs : List ExecState) (at place : ℕ) (hook : Hook) (raised : Bool)
    (after : List ExecState) : Type 0 where
  pub exec : ExecState
  pub there : slice_get execs at ≡ Some exec
  pub new : ExecState
  pub set : after ≡ slice_set execs at new
  pub receives : RowReceives exec.rows place hook raised new.rows
  pub same : new ≡ record exec { rows = new.rows }
