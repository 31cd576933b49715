use Rattle.std.proofs.Common.{refl, sym, ap, ◌∙◌, arith}
use Rattle.std.specs.BinaryHeap.{heap_items}
use Rattle.std.specs.declared.cmp.Reverse.{Reverse}
use Rattle.hr_base.specs.declared.number.JobNo.{JobNo}
use Rattle.hr_queue.specs.declared.rows.Side.TheVariants as side
use Rattle.hr_queue.proofs.CandidateLemmas.{none_leads, candidate_has_row, first_leads, drop_candidates, same_top}
use Rattle.hr_queue.proofs.ListLemmas.{stands_at}
use Rattle.hr_queue.proofs.RowLemmas.{outs_quiet, same_jobs}
use Rattle.hr_queue.proofs.candidates.drop_first.Goals as goal

pub returns-in_default-clause-kept : goal.returns-in_default-clause-kept
returns-in_default-clause-kept c kept =
    (none_leads c.args.rows.now.items (heap_items c.args.candidates.now) _ c.requires.are (grind arith)).0

pub known_row-at-requires-clause-known : goal.known_row-at-requires-clause-known
known_row-at-requires-clause-known c =
    candidate_has_row c.args.rows.now.items (heap_items c.args.candidates.now) _ c.in-Some.first.now
    c.requires.are c.in-Some.ensures.lookup (grind arith)

pub returns-then-is_out-clause-kept : goal.returns-then-is_out-clause-kept
returns-then-is_out-clause-kept c kept =
    first_leads c.args.rows.now.items _ _ c.in-Some.first.now (heap_items c.args.candidates.now) _
    c.requires.are c.known_row-at.ensures (sym c.is_out.ensures ∙ c.if-is_out.true)
    (c.in-Some.ensures.greatest c.requires.heap)

pub write_row-requires : goal.write_row-requires
write_row-requires c = (stands_at _ _ _ c.known_row-at.ensures.there).0

pub returns-clause-are : goal.returns-clause-are
returns-clause-are c =
    let job : Reverse JobNo → JobNo = λ d. d.0 in
    let same = same_top (heap_items c.args.candidates.now) c.in-Some-pop._dropped c.in-Some.first.now
    c.in-Some-pop.ensures.top c.in-Some.ensures.lookup (grind arith) in
    rw c.write_row.ensures.is (drop_candidates c.args.rows.now.items _ c.in-Some.first.now.0 _
    c.in-Some-pop._dropped (heap_items c.args.candidates.now) _ _ _ c.requires.are
    c.known_row-at.ensures (ap job same) c.in-Some-pop.ensures.permutation c.in-Some-pop.ensures.len)

pub returns-clause-outs : goal.returns-clause-outs
returns-clause-outs c = rw c.write_row.ensures.is (outs_quiet
    (record c.known_row-at.result.1 { side = side.In }) c.known_row-at.result.1
    c.known_row-at.result.0 c.args.rows.now.items c.known_row-at.ensures.there
    (sym c.is_out.ensures ∙ c.if-is_out.false) refl)

pub returns-clause-jobs : goal.returns-clause-jobs
returns-clause-jobs c =
    rw c.write_row.ensures.is (same_jobs
    (record c.known_row-at.result.1 { side = side.In }) c.known_row-at.result.1
    c.known_row-at.result.0 c.args.rows.now.items c.known_row-at.ensures.there refl)
