use Rattle.std.proofs.Common.{◌≤◌, ℕ, List, refl, ap, ◌∙◌, arith}
use Rattle.hr_event.specs.declared.task.Turn.{Turn}
use Rattle.hr_queue.specs.declared.rows.Row.{Row}
use Rattle.hr_queue.specs.declared.rows.Side.TheVariants as side
use Rattle.hr_queue.specs.ByJob.{without_job}
use Rattle.hr_queue.specs.Rows.{Rows, outs}
use Rattle.hr_queue.specs.View.{times_in}
use Rattle.hr_queue.proofs.CandidateLemmas.{back_candidates}
use Rattle.hr_queue.proofs.ListLemmas.{stands_at}
use Rattle.hr_queue.proofs.RowLemmas.{row_out, out_without, number_is, same_jobs, same_after, times_out_le, left_len}
use Rattle.hr_queue.proofs.by_job.ByJob.take_back.Goals as goal

pub known_row-at-requires-clause-known : goal.known_row-at-requires-clause-known
known_row-at-requires-clause-known c =
    let times : Rows → ℕ = λ v. times_in (outs v.rows) c.args.job.0 in
    let same = ap times c.self.view_is in
    let few = times_out_le c.self.inside.rows.items c.args.job.0 in
    omega (arith, same, few, c.requires.out)

pub write_row-requires : goal.write_row-requires
write_row-requires c = (stands_at _ _ _ c.known_row-at.ensures.there).0

pub drop_firsts-requires-clause-are : goal.drop_firsts-requires-clause-are
drop_firsts-requires-clause-are c =
    let times : Rows → ℕ = λ v. times_in (outs v.rows) c.args.job.0 in
    let same = ap times c.self.view_is in
    let some : 1 ≤ times_in (outs c.self.inside.rows.items) c.args.job.0 =
    omega (arith, same, c.requires.out) in
    let out = row_out c.self.inside.rows.items c.known_row-at.result.0 c.args.job
    c.known_row-at.result.1 c.self.invariant.0.by_job c.known_row-at.ensures some in
    rw c.write_row.ensures.is (back_candidates c.self.inside.rows.items c.known_row-at.result.0
    c.args.job c.known_row-at.result.1 _ _ c.self.invariant.0 c.known_row-at.ensures out)

pub returns-clause-is : goal.returns-clause-is
returns-clause-is c =
    let times : Rows → ℕ = λ v. times_in (outs v.rows) c.args.job.0 in
    let same = ap times c.self.view_is in
    let some : 1 ≤ times_in (outs c.self.inside.rows.items) c.args.job.0 =
    omega (arith, same, c.requires.out) in
    let out = row_out c.self.inside.rows.items c.known_row-at.result.0 c.args.job
    c.known_row-at.result.1 c.self.invariant.0.by_job c.known_row-at.ensures some in
    let others : ℕ → List Turn = λ n. without_job (outs c.self.inside.rows.items) n in
    let all : List Row → List Turn = λ rs. outs rs in
    rw (← c.self.view_is) (c.drop_firsts.ensures.outs ∙ ap all c.write_row.ensures.is
    ∙ out_without (record c.known_row-at.result.1 { side = side.Back }) c.known_row-at.result.1
    c.known_row-at.result.0 c.self.inside.rows.items c.self.invariant.0.by_job
    c.known_row-at.ensures.there out refl
    ∙ ap others (number_is _ _ _ _ c.known_row-at.ensures))

pub returns-clause-jobs : goal.returns-clause-jobs
returns-clause-jobs c =
    rw (← c.self.view_is) (same_after c.self.inside.rows.items c.write_row.new.rows.items _
    (rw c.write_row.ensures.is (same_jobs (record c.known_row-at.result.1 { side = side.Back })
    c.known_row-at.result.1 c.known_row-at.result.0 c.self.inside.rows.items
    c.known_row-at.ensures.there refl)) c.drop_firsts.ensures.jobs)

pub returns-clause-len : goal.returns-clause-len
returns-clause-len c =
    let times : Rows → ℕ = λ v. times_in (outs v.rows) c.args.job.0 in
    let same = ap times c.self.view_is in
    let some : 1 ≤ times_in (outs c.self.inside.rows.items) c.args.job.0 =
    omega (arith, same, c.requires.out) in
    let out = row_out c.self.inside.rows.items c.known_row-at.result.0 c.args.job
    c.known_row-at.result.1 c.self.invariant.0.by_job c.known_row-at.ensures some in
    let all : List Row → List Turn = λ rs. outs rs in
    rw (← c.self.view_is) (left_len c.known_row-at.result.1 c.known_row-at.result.0
    c.self.inside.rows.items _ c.self.invariant.0.by_job c.known_row-at.ensures.there out
    (c.drop_firsts.ensures.outs ∙ ap all c.write_row.ensures.is))
