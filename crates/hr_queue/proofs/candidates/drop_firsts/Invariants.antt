use Rattle.std.proofs.Common.{◌≡◌, ◌≤◌}
use Rattle.std.specs.BinaryHeap.{IsHeap, heap_items, heap_len, heap_capacity}
use Rattle.std.specs.Vec.{vec_len, vec_capacity}
use Rattle.hr_queue.specs.Rows.{outs, AreCandidates, SameJobs}
use Rattle.hr_queue.proofs.CandidateLemmas.{heap_cmp}
use Rattle.hr_queue.proofs.candidates.drop_firsts.Given as goal

abbrev pub decreases-firsts : goal.decreases-firsts
decreases-firsts l = heap_len l.candidates

abbrev pub invariant-firsts : goal.invariant-firsts
invariant-firsts l = record {
  heap : IsHeap heap_cmp (heap_items l.candidates);
  are : AreCandidates l.rows.items (heap_items l.candidates) (heap_len l.candidates);
  outs : outs l.rows.items ≡ outs l.fn.rows.items;
  jobs : SameJobs l.fn.rows.items l.rows.items;
  len : vec_len l.rows ≡ vec_len l.fn.rows;
  rows_room : vec_capacity l.rows ≡ vec_capacity l.fn.rows;
  room : heap_capacity l.candidates ≡ heap_capacity l.fn.candidates;
  fewer : heap_len l.candidates ≤ heap_len l.fn.candidates;
}
