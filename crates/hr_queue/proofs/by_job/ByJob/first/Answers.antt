use Rattle.std.proofs.Common.{List, sym, ap, arith}
use Rattle.std.specs.BinaryHeap.{heap_items}
use Rattle.std.specs.Prelude.{Option, slice_get}
use Rattle.hr_event.specs.declared.task.Turn.{Turn}
use Rattle.hr_queue.proofs.CandidateLemmas.{none_leads, candidate_has_row, first_out}
use Rattle.hr_queue.proofs.by_job.ByJob.first.Goals as goal

pub returns-in_default : goal.returns-in_default
returns-in_default c =
    let none = none_leads c.self.inside.rows.items (heap_items c.self.inside.candidates) _
    c.self.invariant.0 (grind arith) in
    let first : List Turn → Option Turn = λ ts. slice_get ts 0 in
    rw (← c.self.view_is) (sym (ap first none.1))

pub known_row-requires-clause-known : goal.known_row-requires-clause-known
known_row-requires-clause-known c =
    candidate_has_row c.self.inside.rows.items (heap_items c.self.inside.candidates) _
    c.in-Some.first.now c.self.invariant.0 c.in-Some.ensures.lookup (grind arith)

pub returns : goal.returns
returns c = rw (← c.self.view_is) (sym (first_out c.self.inside.rows.items _ _ c.in-Some.first.now
    (heap_items c.self.inside.candidates) _ c.self.invariant.0 c.self.invariant.1
    c.known_row.ensures c.in-Some.ensures.lookup (grind arith)
    (c.in-Some.ensures.greatest c.self.invariant.2)))
