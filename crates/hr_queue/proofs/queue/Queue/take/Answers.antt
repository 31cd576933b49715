use Rattle.std.proofs.Common.{rules}
use Rattle.hr_queue.proofs.WholeLemmas.{due_known, due_new, first_known, first_new, whole_due, whole_first, rows_same}
use Rattle.hr_queue.proofs.queue.Queue.take.Goals as goal

pub put_out-requires-clause-known : goal.put_out-requires-clause-known
put_out-requires-clause-known c = due_known _ _ _ _ _ _ _ _ _ _ c.self.invariant.0
    c.in-Some.ensures.due c.self.invariant.2

pub put_out-requires-in-Some-pop_front-clause-known :
    goal.put_out-requires-in-Some-pop_front-clause-known
put_out-requires-in-Some-pop_front-clause-known c = first_known _ _ _ _ _ _ _ _ _
    c.self.invariant.0 c.in-Some-pop_front.ensures.items c.self.invariant.2

pub put_out-requires-clause-new : goal.put_out-requires-clause-new
put_out-requires-clause-new c = due_new _ _ _ _ _ _ _ _ c.self.invariant.0 c.in-Some.ensures.due

pub put_out-requires-in-Some-pop_front-clause-new :
    goal.put_out-requires-in-Some-pop_front-clause-new
put_out-requires-in-Some-pop_front-clause-new c =
    first_new _ _ _ _ _ _ _ c.self.invariant.0 c.in-Some-pop_front.ensures.items

pub invariant_of-self : goal.invariant_of-self
invariant_of-self c = (
  whole_due _ _ _ _ _ _ _ _ _ c.self.invariant.0 c.in-Some.ensures.due c.put_out.ensures.is,
  search rules,
  rows_same _ _ _ _ c.put_out.ensures.jobs c.self.invariant.2,
  search rules,
)

pub invariant_of-self-in-Some-pop_front : goal.invariant_of-self-in-Some-pop_front
invariant_of-self-in-Some-pop_front c = rw c.in_default.ensures.none.1 (
  whole_first _ _ _ _ _ _ _ _ c.self.invariant.0 c.in-Some-pop_front.ensures.items
      c.put_out-in-Some-pop_front.ensures.is,
  search rules,
  rows_same _ _ _ _ c.put_out-in-Some-pop_front.ensures.jobs c.self.invariant.2,
  search rules,
)
