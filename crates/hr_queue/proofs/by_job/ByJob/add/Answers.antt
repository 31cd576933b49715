use Rattle.std.proofs.Common.{ℕ, refl, ap, ◌∙◌, rules}
use Rattle.hr_queue.specs.declared.rows.Side.TheVariants as side
use Rattle.hr_queue.specs.Rows.{Rows, times_row}
use Rattle.hr_queue.proofs.CandidateLemmas.{insert_candidates, insert_leads}
use Rattle.hr_queue.proofs.RowLemmas.{outs_insert}
use Rattle.hr_queue.proofs.by_job.ByJob.add.Goals as goal

pub invariant_of-self : goal.invariant_of-self
invariant_of-self c =
    let times : Rows → ℕ = λ v. times_row v.rows c.args.turn.job.0 in
    let new = ap times c.self.view_is ∙ c.requires.new in (
      rw c.in-Ok.ensures.items (insert_candidates c.self.inside.rows.items c.find-at.result
          c.args.turn _ _ c.self.invariant.0 c.find-at.ensures.is new),
      rw c.in-Ok.ensures.items (insert_leads c.args.turn c.find-at.result c.self.inside.rows.items
          c.self.invariant.1),
      c.self.invariant.2,
      search rules,
    )

pub returns-clause-outs : goal.returns-clause-outs
returns-clause-outs c = rw (← c.self.view_is) (rw c.in-Ok.ensures.items (outs_insert
    (record { turn = c.args.turn; side = side.In }) c.find-at.result c.self.inside.rows.items refl))
