-- The join of hooks: what is known of a job, in whatever order its hooks came, and however often
-- each. (Our own.)
use Rattle.std.specs.Prelude.{◌≡◌, ℕ, nat_eq, nat_lt, Bool, true, false, ◌&&◌, ◌||◌, if◌then◌else◌, List, [], ◌∷◌, ◌++◌, map, ◌↔◌}
use Rattle.std.specs.List.{AllByRecursion, Contains}
use Rattle.hr_base.specs.declared.status.Status.{Status}
use Rattle.hr_base.specs.declared.status.Status.TheVariants.{Pending}
use Rattle.hr_base.specs.declared.status.Hook.{Hook}
use Rattle.hr_base.specs.Status.{code_of, IsFinal}

-- what a hook tells: a revision and its status
abbrev pub told_by : Hook → ℕ × Status
told_by hook = (hook.rev, hook.status)

-- the first pair is above the second: by revision, and then by code
abbrev pub is_above : ℕ × Status → ℕ × Status → Bool
is_above p q = nat_lt q.0 p.0 || (nat_eq q.0 p.0 && nat_lt (code_of q.1) (code_of p.1))

-- the greater of two pairs, which is the first where neither is above the other
abbrev pub greater_of : ℕ × Status → ℕ × Status → ℕ × Status
greater_of p q = if is_above q p then q else p

-- the first greatest of a pair and those that follow it
unfoldable pub first_greatest : ℕ × Status → List (ℕ × Status) → ℕ × Status
first_greatest p [] = p
first_greatest p (q ∷ qs) = greater_of p (first_greatest q qs)

-- the join of hooks: the first greatest pair of the list that begins with (0, Pending) and goes on
-- with what they tell
abbrev pub joined : List Hook → ℕ × Status
joined hooks = first_greatest (0, Pending) (map told_by hooks)

-- p is the first greatest pair of the list: each pair before it is below it, and none after it is
-- above it
pub record IsFirstGreatest (pairs : List (ℕ × Status)) (p : ℕ × Status) : Type 0 where
  pub before : List (ℕ × Status)
  pub after : List (ℕ × Status)
  pub there : pairs ≡ before ++ p ∷ after
  pub first : AllByRecursion (λ q. is_above p q ≡ true) before
  pub greatest : AllByRecursion (λ q. is_above q p ≡ false) after

-- the lists have the same members
abbrev pub SameMembers : List Hook → List Hook → Type 0
SameMembers hooks others = (hook : Hook) → Contains hooks hook ↔ Contains others hook

-- no revision has two final statuses
abbrev pub OneFinalEach : List Hook → Type 0
OneFinalEach hooks =
    (one other : Hook) → Contains hooks one → Contains hooks other → one.rev ≡ other.rev
    → IsFinal one.status → IsFinal other.status → one.status ≡ other.status
