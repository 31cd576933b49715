use Rattle.std.proofs.Common.{ℕ, refl, ap, arith}
use Rattle.std.specs.BinaryHeap.{heap_items}
use Rattle.hr_base.specs.declared.number.Moment.{Moment}
use Rattle.hr_queue.specs.declared.delayed.Delayed.{Delayed}
use Rattle.hr_queue.specs.View.{due_of}
use Rattle.hr_queue.proofs.DelayedLemmas.{soonest, none_due, same_first}
use Rattle.hr_queue.proofs.delayed.take_due.Goals as goal

pub returns-then-now-due-clause-none : goal.returns-then-now-due-clause-none
returns-then-now-due-clause-none c =
    let seconds : Moment → ℕ = λ m. m.0 in
    let first = soonest _ _ (c.in-Some.ensures.greatest c.requires) in
    (none_due _ c.in-Some.first.now _ first (omega (arith, ap seconds c.due.ensures)), refl)

pub returns-clause-due : goal.returns-clause-due
returns-clause-due c =
    let due : Delayed → ℕ = due_of in
    let seconds : Moment → ℕ = λ m. m.0 in
    let same = same_first (heap_items c.args.delayed.now) c.in-Some.first.now c.in-Some-pop.due
    c.in-Some.ensures.lookup c.in-Some-pop.ensures.top (grind arith) in
    record {
      due = c.in-Some-pop.due;
      reached = omega (arith, ap seconds c.due.ensures, ap due same);
      soonest = soonest _ _ (c.in-Some-pop.ensures.heap_order c.requires).1;
      is = c.turn.ensures;
      rest = c.in-Some-pop.ensures.permutation;
    }
