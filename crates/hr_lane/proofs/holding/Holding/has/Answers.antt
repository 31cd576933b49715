use Rattle.std.proofs.Common.{◌∙◌, ap, sym, is_some}
use Rattle.hr_line.specs.State.{held_at}
use Rattle.hr_lane.specs.Holding.{Kept}
use Rattle.hr_lane.proofs.HoldingLemmas.{found_as}
use Rattle.hr_lane.proofs.holding.Holding.has.Goals as goal

pub returns : goal.returns
returns c =
    c.contains_key.ensures
    ∙ ap is_some (sym (found_as c.self.inside.jobs.entries c.args.job.0 c.self.invariant))
    ∙ ap (λ (kept : Kept). is_some (held_at kept.held c.args.job.0)) c.self.view_is
