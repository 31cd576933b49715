use Rattle.std.proofs.Common.{◌∙◌, ap, sym, subst}
use Rattle.std.specs.Prelude.{Some}
use Rattle.std.specs.Map.{values_of}
use Rattle.hr_line.specs.State.{HeldAfter, held_at}
use Rattle.hr_lane.specs.Holding.{AreKeyed, Kept}
use Rattle.hr_lane.proofs.HoldingLemmas.{after_update, found_as, inserted_keyed, some_or_none}
use Rattle.hr_lane.proofs.holding.Holding.put.Goals as goal

pub invariant_of-self : goal.invariant_of-self
invariant_of-self c =
    subst AreKeyed (sym c.in-Ok-None.ensures.entries)
    (inserted_keyed c.self.inside.jobs.entries c.args.held c.self.invariant
    (sym (found_as c.self.inside.jobs.entries c.args.held.by.job.0 c.self.invariant)
    ∙ ap (λ (kept : Kept). held_at kept.held c.args.held.by.job.0) c.self.view_is ∙ c.requires.free))

pub returns-clause-there : goal.returns-clause-there
returns-clause-there c =
    subst (λ (kept : Kept). HeldAfter c.args.held.by.job.0 (Some c.args.held) kept.held (values_of c.insert.new.self.entries))
    c.self.view_is
    (after_update c.self.inside.jobs.entries c.insert.new.self.entries c.args.held.by.job.0 (Some c.args.held)
    c.self.invariant (invariant_of-self c) (λ other. c.in-Ok-None.ensures.updates.0 other))

pub unreachable-requires : goal.unreachable-requires
unreachable-requires c =
    some_or_none c.in-Ok-Some.field-0-0
    (sym c.in-Ok-Some.field-0-is ∙ c.in-Ok-Some.ensures.old
    ∙ sym (found_as c.self.inside.jobs.entries c.args.held.by.job.0 c.self.invariant)
    ∙ ap (λ (kept : Kept). held_at kept.held c.args.held.by.job.0) c.self.view_is ∙ c.requires.free)
