-- The state of the core, as contracts see it: lanes, a board, a queue and a store, and the hooks
-- that went between them. (Our own, after Harbor's job service and its task manager.)
use Rattle.std.specs.Prelude.{ℕ, zero, suc, Bool, true, false, List, [], ◌∷◌, slice_get, Option, None, unwrap_or}
use Rattle.hr_base.specs.declared.status.Status.{Status}
use Rattle.hr_base.specs.declared.status.Mark.TheVariants.{At}
use Rattle.hr_base.specs.declared.status.Hook.{Hook}
use Rattle.hr_base.specs.Status.{word_of}
use Rattle.hr_event.specs.declared.task.TaskSpec.{TaskSpec}
use Rattle.hr_board.specs.Plain.{Plain, new_board}
use Rattle.hr_board.specs.View.{Place, Word, place_of}
use Rattle.hr_line.specs.State.{Link, State}
use Rattle.hr_queue.specs.View as queue
use Rattle.hr_queue.specs.View.{empty_queue}
use Rattle.hr_queue.specs.declared.answer.Queued.{Queued}
use Rattle.hr_store.specs.Store.{StoreState}

-- the core at a moment
pub record CoreState : Type 0 where
  -- the lanes that copy
  pub lanes : List State
  -- the words of the jobs' revisions
  pub board : Plain
  -- the turns of the jobs
  pub turns : queue.View
  -- the executions with their rows
  pub store : StoreState
  -- what each job that was made copies, from job 1 on
  pub made : List TaskSpec
  -- the hooks that were emitted, over all lanes and stops, the oldest first
  pub hooks : List Hook
  -- which of them were delivered, in their order; what is missing was not
  pub delivered : List Bool
  -- the moment, in seconds
  pub now : ℕ
  -- the connections that no job reads or writes
  pub others : List Link
  -- the tasks that a trigger of policy 1 plans; none where the source could not be listed
  pub plan : Option (List TaskSpec)

-- before the first event: with these lanes, and room for so many jobs
abbrev pub opening : List State → List Link → Option (List TaskSpec) → ℕ → CoreState
opening lanes others plan jobs = record {
  lanes = lanes;
  board = new_board jobs;
  turns = empty_queue;
  store = record { limit = jobs; jobs = 0; made = 0; kept = [] };
  made = [];
  hooks = [];
  delivered = [];
  now = 0;
  others = others;
  plan = plan;
}

-- ---- jobs

-- what a job that was made copies
abbrev pub spec_of : List TaskSpec → ℕ → Option TaskSpec
spec_of made zero = None
spec_of made (suc at) = slice_get made at

-- the jobs of these tasks as a queue is given them, numbered on from a number
abbrev pub queued_from : ℕ → List TaskSpec → List Queued
queued_from before [] = []
queued_from before (spec ∷ specs) =
    record { job = record { 0 = suc before }; attempts = spec.attempts }
    ∷ queued_from (suc before) specs

-- the lane that has a task, by its place from 0: there is one
abbrev pub lane_of : List State → TaskSpec → ℕ
lane_of lanes spec = 0

-- ---- hooks

-- where the word of a hook's revision stands
abbrev pub hook_place : Hook → Place
hook_place hook = place_of hook.job.0 hook.rev

-- the word of a status
abbrev pub status_word : Status → Word
status_word status = word_of (At status)

-- the hook of this number, from 1
abbrev pub hook_at : List Hook → ℕ → Option Hook
hook_at hooks zero = None
hook_at hooks (suc at) = slice_get hooks at

-- the hook of this number, from 1, was delivered
abbrev pub was_delivered : List Bool → ℕ → Bool
was_delivered marks zero = false
was_delivered marks (suc at) = unwrap_or (slice_get marks at) false

-- these marks after the one at a place, from 0, was set
abbrev pub with_mark : List Bool → ℕ → List Bool
with_mark [] zero = true ∷ []
with_mark [] (suc at) = false ∷ with_mark [] at
with_mark (mark ∷ marks) zero = true ∷ marks
with_mark (mark ∷ marks) (suc at) = mark ∷ with_mark marks at
