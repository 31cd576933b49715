use Rattle.std.proofs.Common.{◌∙◌, ap, sym, subst, nat_eq}
use Rattle.std.specs.Prelude.{None}
use Rattle.std.specs.Map.{values_of}
use Rattle.hr_line.specs.State.{HeldAfter, held_at}
use Rattle.hr_lane.specs.Holding.{AreKeyed, Kept}
use Rattle.hr_lane.proofs.HoldingLemmas.{after_update, found_as, removed_keyed}
use Rattle.hr_lane.proofs.holding.Holding.take.Goals as goal

pub invariant_of-self : goal.invariant_of-self
invariant_of-self c =
    subst AreKeyed (sym c.swap_remove.ensures.entries)
    (removed_keyed (nat_eq c.args.job.0) c.self.inside.jobs.entries c.self.invariant)

pub returns-clause-value : goal.returns-clause-value
returns-clause-value c =
    c.swap_remove.ensures.value
    ∙ sym (found_as c.self.inside.jobs.entries c.args.job.0 c.self.invariant)
    ∙ ap (λ (kept : Kept). held_at kept.held c.args.job.0) c.self.view_is

pub returns-clause-gone : goal.returns-clause-gone
returns-clause-gone c =
    subst (λ (kept : Kept). HeldAfter c.args.job.0 None kept.held (values_of c.swap_remove.new.self.entries)) c.self.view_is
    (after_update c.self.inside.jobs.entries c.swap_remove.new.self.entries c.args.job.0 None c.self.invariant
    (invariant_of-self c) (λ other. c.swap_remove.ensures.updates.0 other))
