-- Lemmas on the words of specs/Taking.antt: which delayed turn comes first, by the order of the heap.
use Rattle.std.proofs.Common.{◌≡◌, ℕ, ◌<◌, ◌≤◌, false, List, [], ◌∷◌, get_or, length, sym, ◌∙◌, arith}
use Rattle.std.proofs.lemmas.Bool.Decides.{nat_tests}
use Rattle.std.specs.BinaryHeap.{IsUpperBound}
use Rattle.std.specs.Ordering.{nat_cmp, ordering_then, is_lt}
use Rattle.std.specs.Prelude.{nat_lt, nat_eq, ◌||◌, ◌&&◌}
use Rattle.std.specs.declared.cmp.Ordering.{Ordering}
use Rattle.hr_queue.specs.declared.delayed.Delayed.{Delayed}
use Rattle.hr_queue.specs.Taking.{IsSoonest, NoneDue}
use Rattle.hr_queue.specs.View.{due_of, job_of}

-- the order that is derived for delayed turns
abbrev pub heap_cmp : Delayed → Delayed → Ordering
heap_cmp d e = ordering_then (nat_cmp (due_of e) (due_of d))
    (ordering_then (nat_cmp (job_of e) (job_of d))
    (ordering_then (nat_cmp d.rev e.rev) (nat_cmp d.attempts e.attempts)))

-- by numbers: what is not below in that order is not sooner
not_sooner : (due later job other rev rev_of attempts of : ℕ)
    → is_lt (ordering_then (nat_cmp later due) (ordering_then (nat_cmp other job)
    (ordering_then (nat_cmp rev rev_of) (nat_cmp attempts of)))) ≡ false
    → (nat_lt later due || (nat_eq later due && nat_lt other job)) ≡ false
not_sooner due later job other rev rev_of attempts of h = grind (arith, nat_tests)

-- the greatest of the heap comes first
pub soonest : (d : Delayed) (delayed : List Delayed) → IsUpperBound heap_cmp d delayed
    → IsSoonest d delayed
soonest d [] bound = tt
soonest d (e ∷ delayed) bound = (
  not_sooner (due_of d) (due_of e) (job_of d) (job_of e) d.rev e.rev d.attempts e.attempts bound.0,
  soonest d delayed bound.1,
)

not_below : (due later job other : ℕ)
    → (nat_lt later due || (nat_eq later due && nat_lt other job)) ≡ false → due ≤ later
not_below due later job other h = grind (arith, nat_tests)

-- where the first one isn't due, none is
pub none_due : (now : ℕ) (d : Delayed) (delayed : List Delayed) → IsSoonest d delayed → now < due_of d
    → NoneDue now delayed
none_due now d [] first not_yet = tt
none_due now d (e ∷ delayed) first not_yet = (
  let after = not_below (due_of d) (due_of e) (job_of d) (job_of e) first.0 in
      omega (arith, after, not_yet),
  none_due now d delayed first.1 not_yet,
)

-- two values that are the first item of a list are one
pub same_first : (delayed : List Delayed) (d e : Delayed) → d ≡ get_or delayed 0 d
    → e ≡ get_or delayed 0 e → 0 < length delayed → d ≡ e
same_first [] d e is other some = absurd (omega arith)
same_first (x ∷ delayed) d e is other some = is ∙ sym other
