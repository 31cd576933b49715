-- What a registry in memory was told to do at its operations, which are counted from 1: which of
-- them fail, and which tags are moved just before them. (Our own.)
use Rattle.std.specs.Prelude.{◌+◌, ◌-◌, ◌^◌, ◌&&◌, ℕ, Bool, min, nat_eq, nat_le, if◌then◌else◌, List, [], ◌∷◌}
use Rattle.std.specs.List.{list_any}
use Rattle.hr_adapter.specs.Content.{Content, with_tag}
use Rattle.hr_adapter.specs.declared.plan.Planned.{Planned}
use Rattle.hr_adapter.specs.declared.plan.Change.{Change}

-- what a registry in memory tells of its operations; every other registry has no plan
pub record Plan : Type 0 where
  -- how many operations there were, at most 2^64 - 1
  pub operations : ℕ
  -- the operations that fail
  pub failing : List Planned
  -- the tags that are moved, each just before its operation
  pub moves : List Change

-- the number of the next operation
abbrev pub next_operation : Plan → ℕ
next_operation p = min (p.operations + 1) (2 ^ 64 - 1)

-- the plan after one operation more
abbrev pub went_on : Plan → Plan
went_on p = record p { operations = next_operation p }

-- an operation of this number fails
abbrev pub fails_at : ℕ → List Planned → Bool
fails_at n failing = list_any (λ f. nat_eq f.op n) failing

-- a put of this number fails, and takes effect all the same
abbrev pub lands_at : ℕ → List Planned → Bool
lands_at n failing = list_any (λ f. nat_eq f.op n && f.lands) failing

-- the content after the moves that are planned for an operation of this number, in their order
abbrev pub moved_at : ℕ → List Change → Content → Content
moved_at n [] c = c
moved_at n (m ∷ more) c =
    moved_at n more (if nat_eq m.op n then with_tag c m.repo m.tag m.digest else c)

-- the next operation fails
abbrev pub fails_next : Plan → Bool
fails_next p = fails_at (next_operation p) p.failing

-- the next operation, where it is a put, takes effect all the same
abbrev pub lands_next : Plan → Bool
lands_next p = lands_at (next_operation p) p.failing

-- the content as the next operation finds it
abbrev pub moved_next : Plan → Content → Content
moved_next p c = moved_at (next_operation p) p.moves c

-- some later operation fails
abbrev pub will_fail : Plan → Bool
will_fail p = list_any (λ f. nat_le (next_operation p) f.op) p.failing

-- some tag will be moved
abbrev pub will_move : Plan → Bool
will_move p = list_any (λ m. nat_le (next_operation p) m.op) p.moves
