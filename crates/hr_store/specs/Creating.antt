-- What making an execution does. (Our own.)
use Rattle.std.specs.Prelude.{◌≡◌, ℕ, suc, ◌+◌, nat_le, nat_lt, Bool, true, false, ◌&&◌, List, [], ◌∷◌, ◌++◌, length, Result, Ok, Err}
use Rattle.hr_base.specs.declared.number.ExecNo.{ExecNo}
use Rattle.hr_base.specs.declared.number.Moment.{Moment}
use Rattle.hr_base.specs.declared.number.PolicyNo.{PolicyNo}
use Rattle.hr_event.specs.declared.task.TaskSpec.{TaskSpec}
use Rattle.hr_event.specs.declared.view.Trigger.{Trigger}
use Rattle.hr_store.specs.declared.refusal.CreateRefused.{CreateRefused}
use Rattle.hr_store.specs.declared.refusal.CreateRefused.TheVariants.{Full, Memory}
use Rattle.hr_store.specs.Row.{RowState}
use Rattle.hr_store.specs.Execution.{ExecState}
use Rattle.hr_store.specs.Store.{StoreState}

-- rows that received no hook, one for each task, of jobs that are numbered on from a number
abbrev pub new_rows : ℕ → List TaskSpec → List RowState
new_rows before [] = []
new_rows before (spec ∷ specs) =
    record { job = suc before; spec = spec; received = [] } ∷ new_rows (suc before) specs

-- the store may make so many jobs more, and one execution
abbrev pub has_room : StoreState → ℕ → Bool
has_room store count = nat_le (store.jobs + count) store.limit && nat_lt store.made 4294967295

-- the next execution of a store, with these tasks
abbrev pub next_exec : StoreState → PolicyNo → Trigger → List TaskSpec → Moment → ExecState
next_exec store policy trigger specs now = record {
  exec = store.made + 1;
  policy = policy;
  trigger = trigger;
  began = now;
  plan_failed = false;
  before = store.jobs;
  rows = new_rows store.jobs specs;
}

-- the execution was made, and stands after all others
pub record IsCreated (store : StoreState) (policy : PolicyNo) (trigger : Trigger)
    (specs : List TaskSpec) (now : Moment) (exec : ExecNo) (after : StoreState) : Type 0 where
  pub room : has_room store (length specs) ≡ true
  pub number : exec.0 ≡ store.made + 1
  pub after_is : after ≡ record store {
    jobs = store.jobs + length specs;
    made = store.made + 1;
    kept = store.kept ++ next_exec store policy trigger specs now ∷ [];
  }

-- an execution is made, or the store is left as it was: it is full exactly where it may not make so
-- many jobs, or no execution, more
abbrev pub CreatesExec : StoreState → PolicyNo → Trigger → List TaskSpec → Moment
    → Result ExecNo CreateRefused → StoreState → Type 0
CreatesExec store policy trigger specs now (Ok exec) after =
    IsCreated store policy trigger specs now exec after
CreatesExec store policy trigger specs now (Err (Full jobs)) after =
    (has_room store (length specs) ≡ false) × (jobs ≡ store.limit) × (after ≡ store)
CreatesExec store policy trigger specs now (Err Memory) after =
    (has_room store (length specs) ≡ true) × (after ≡ store)
