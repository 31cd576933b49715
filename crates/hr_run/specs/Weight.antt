-- Weights of hooks: sums over them say, without any order, which hooks are whose, and which final
-- move of the board each is of. (Our own.)
use Rattle.std.specs.Prelude.{ℕ, ◌&&◌, Bool, nat_eq, nat_le, cond, Option, Some, None}
use Rattle.std.specs.List.{sum_by}
use Rattle.hr_base.specs.declared.status.Hook.{Hook}
use Rattle.hr_event.specs.declared.entry.Entry.{Entry}
use Rattle.hr_board.specs.View.{Place, Word}
use Rattle.hr_line.specs.Hooks.{hook_from}
use Rattle.hr_line.specs.State.{State}
use Rattle.hr_run.specs.State.{hook_place, status_word}

-- what a hook of a final status weighs, by the weight of its place and word; others weigh nothing
abbrev pub final_weight : (Place × Word → ℕ) → Hook → ℕ
final_weight f hook =
    cond (nat_le 4 (status_word hook.status)) (f (hook_place hook, status_word hook.status)) 0

-- what the hook of a stop weighs; others weigh nothing
abbrev pub stop_weight : (Hook → ℕ) → Hook → ℕ
stop_weight g hook = cond (nat_eq (status_word hook.status) 4) (g hook) 0

-- what the hooks of a lane weigh
abbrev pub lane_weight : (Hook → ℕ) → State → ℕ
lane_weight g lane = sum_by g lane.hooks

-- what a hook weighs, where there is one
abbrev pub some_weight : (Hook → ℕ) → Option Hook → ℕ
some_weight g None = 0
some_weight g (Some hook) = g hook

-- what an entry weighs: its hook, where one goes with it
abbrev pub entry_weight : (Hook → ℕ) → Entry → ℕ
entry_weight g e = some_weight g (hook_from e.job e.rev e.what)

-- 1 for true and 0 for false
abbrev pub one_if : Bool → ℕ
one_if b = cond b 1 0

-- 1 at a place with a word, and 0 elsewhere
abbrev pub at : Place → Word → Place × Word → ℕ
at place word note = one_if (nat_eq note.0 place && nat_eq note.1 word)
