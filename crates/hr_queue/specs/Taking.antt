-- What a take does. (Our own.)
use Rattle.std.specs.Prelude.{◌≡◌, ◌⊎◌, ℕ, ◌<◌, ◌≤◌, false, List, [], ◌∷◌, length}
use Rattle.std.specs.List.{AllByRecursion, Contains}
use Rattle.std.specs.List.Sorted.{IsPermutation}
use Rattle.hr_event.specs.declared.task.Turn.{Turn}
use Rattle.hr_queue.specs.declared.answer.Taken.{Taken}
use Rattle.hr_queue.specs.declared.answer.Taken.TheVariants as taken
use Rattle.hr_queue.specs.declared.delayed.Delayed.{Delayed}
use Rattle.hr_queue.specs.ByJob.{with_turn}
use Rattle.hr_queue.specs.View.{View, due_of, turn_of, is_sooner}

-- none of the delayed turns is before this one
abbrev pub IsSoonest : Delayed → List Delayed → Type 0
IsSoonest d delayed = AllByRecursion (λ e. is_sooner e d ≡ false) delayed

-- the delayed turn that comes first is due, and leaves the others
pub record IsDue (now : ℕ) (delayed : List Delayed) (turn : Turn) (left : List Delayed)
    : Type 0 where
  pub due : Delayed
  pub reached : due_of due ≤ now
  pub soonest : IsSoonest due delayed
  pub is : turn ≡ turn_of due
  pub rest : IsPermutation delayed (due ∷ left)

-- no delayed turn is due
abbrev pub NoneDue : ℕ → List Delayed → Type 0
NoneDue now delayed = AllByRecursion (λ d. now < due_of d) delayed

-- the delayed turn that comes first is due at this moment
pub record FirstDue (delayed : List Delayed) (due : ℕ) : Type 0 where
  pub first : Delayed
  pub there : Contains delayed first
  pub soonest : IsSoonest first delayed
  pub at : due_of first ≡ due

-- the due turn goes out
pub record TakesDue (now : ℕ) (q : View) (turn : Turn) (r : View) : Type 0 where
  pub due : IsDue now q.delayed turn r.delayed
  pub after : r ≡ record q { delayed = r.delayed; out = with_turn q.out turn }

-- none is due, and the first waiting turn goes out
pub record TakesFirst (now : ℕ) (q : View) (turn : Turn) (r : View) : Type 0 where
  pub none_due : NoneDue now q.delayed
  pub first : q.waiting ≡ turn ∷ r.waiting
  pub after : r ≡ record q { waiting = r.waiting; out = with_turn q.out turn }

-- why no turn goes out: one is delayed, or turns are out and no more, or there is none
abbrev pub Rests : List Delayed → List Turn → Taken → Type 0
Rests delayed out (taken.Turn turn) = ⊥
Rests delayed out (taken.Later due) = FirstDue delayed due.0
Rests delayed out (taken.Busy n) = (delayed ≡ []) × (n ≡ length out) × (0 < n)
Rests delayed out taken.Idle = (delayed ≡ []) × (out ≡ [])

-- what a take does: the due turn that comes first goes out, else the first waiting one; where there
-- is neither, nothing changes
abbrev pub Takes : ℕ → View → Taken → View → Type 0
Takes now q (taken.Turn turn) r = TakesDue now q turn r ⊎ TakesFirst now q turn r
Takes now q answer r =
    (r ≡ q) × NoneDue now q.delayed × (q.waiting ≡ []) × Rests q.delayed q.out answer
