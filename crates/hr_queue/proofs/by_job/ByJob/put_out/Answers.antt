use Rattle.std.proofs.Common.{◌≡◌, ℕ, length, sym, ap, ◌∙◌, arith, rules}
use Rattle.std.specs.Vec.{vec_len}
use Rattle.hr_queue.specs.Rows.{Rows, outs}
use Rattle.hr_queue.specs.View.{times_in}
use Rattle.hr_queue.proofs.CandidateLemmas.{room_for_one, put_candidates, put_leads}
use Rattle.hr_queue.proofs.ListLemmas.{stands_at}
use Rattle.hr_queue.proofs.RowLemmas.{out_row, out_with, row_not_out, number_is, same_jobs, longer}
use Rattle.hr_queue.proofs.by_job.ByJob.put_out.Goals as goal

pub offer-requires-clause-room : goal.offer-requires-clause-room
offer-requires-clause-room c quiet =
    let one = room_for_one c.self.inside.rows.items _ _ c.known_row-at.ensures.there quiet in
    let len : vec_len c.self.inside.rows ≡ length c.self.inside.rows.items = grind arith in
    let count = c.self.invariant.0.count in
    let places = c.self.invariant.3 in
    omega (arith, one, len, count, places.within, places.candidate_room)

pub write_row-requires : goal.write_row-requires
write_row-requires c = (stands_at _ _ _ c.known_row-at.ensures.there).0

pub invariant_of-self : goal.invariant_of-self
invariant_of-self c = (
  rw c.write_row.ensures.is (put_candidates c.self.inside.rows.items _ c.args.turn _ _ _ _ _
      c.self.invariant.0 c.known_row-at.ensures c.offer.ensures.is c.offer.ensures.len),
  rw c.write_row.ensures.is (put_leads c.self.inside.rows.items _ c.args.turn _
      c.self.invariant.1 c.known_row-at.ensures),
  c.offer.ensures.heap,
  search rules,
)

pub returns-clause-is : goal.returns-clause-is
returns-clause-is c =
    let times : Rows → ℕ = λ v. times_in (outs v.rows) c.args.turn.job.0 in
    let inside = row_not_out c.self.inside.rows.items _ c.args.turn.job _ c.self.invariant.0.by_job
    c.known_row-at.ensures (ap times c.self.view_is ∙ c.requires.new) in
    let same = number_is _ _ _ _ c.known_row-at.ensures in
    rw (← c.self.view_is) (rw c.write_row.ensures.is (out_with c.args.turn _ _
    c.self.inside.rows.items c.self.invariant.0.by_job c.known_row-at.ensures.there same inside))

pub returns-clause-jobs : goal.returns-clause-jobs
returns-clause-jobs c =
    let same = number_is _ _ _ _ c.known_row-at.ensures in
    rw (← c.self.view_is) (rw c.write_row.ensures.is (same_jobs (out_row c.args.turn) _ _ _
    c.known_row-at.ensures.there (sym same)))

pub returns-clause-len : goal.returns-clause-len
returns-clause-len c =
    let times : Rows → ℕ = λ v. times_in (outs v.rows) c.args.turn.job.0 in
    let inside = row_not_out c.self.inside.rows.items _ c.args.turn.job _ c.self.invariant.0.by_job
    c.known_row-at.ensures (ap times c.self.view_is ∙ c.requires.new) in
    let same = number_is _ _ _ _ c.known_row-at.ensures in
    rw (← c.self.view_is) (rw c.write_row.ensures.is (rw (out_with c.args.turn _ _
    c.self.inside.rows.items c.self.invariant.0.by_job c.known_row-at.ensures.there same inside)
    (longer _ _ c.args.turn)))
