use Rattle.std.proofs.Common.{◌∙◌, sym}
use Rattle.hr_queue.proofs.RowLemmas.{no_row, row_inside, row_is_out}
use Rattle.hr_queue.proofs.by_job.ByJob.of.Goals as goal

pub returns-in_default : goal.returns-in_default
returns-in_default c =
    rw (← c.self.view_is) (no_row c.self.inside.rows.items c.args.job c.in_default.ensures)

pub returns-then-not-is_out : goal.returns-then-not-is_out
returns-then-not-is_out c = rw (← c.self.view_is) (row_inside _ _ _ _
    c.self.invariant.0.by_job c.in-Some.ensures (sym c.is_out.ensures ∙ c.if-not-is_out.true))

pub returns : goal.returns
returns c = rw (← c.self.view_is) (
  c.in-Some.ensures.is,
  row_is_out _ _ _ _
      c.self.invariant.0.by_job c.in-Some.ensures (sym c.is_out.ensures ∙ c.if-not-is_out.false),
)
