use Rattle.std.proofs.Common.{◌∙◌, ap, sym}
use Rattle.std.specs.Prelude.{Some, None}
use Rattle.hr_lane.specs.Conn.{links_of}
use Rattle.hr_run.specs.Does as does
use Rattle.hr_core.specs.Tags.{told_of}
use Rattle.hr_core.proofs.TagsLemmas.{core_tells, told_first, told_second}
use Rattle.hr_core.proofs.engine.Core.tags.Goals as goal

pub returns-in-Some : goal.returns-in-Some
returns-in-Some g c =
    core_tells _ c.args.self.now c.args.reg (Some c.in-Some.told) c.self.view_is
    (told_first _ _ c.args.reg c.in-Some.told
    (sym c.in-Some.is ∙ c.in_ok-told.ensures ∙ ap (λ lanes. told_of (does.links_of lanes) c.args.reg) c.deref.ensures.value))

pub returns-in-Some-2 : goal.returns-in-Some-2
returns-in-Some-2 g c =
    core_tells _ c.args.self.now c.args.reg (Some c.in-Some-2.told) c.self.view_is
    (told_second _ _ c.args.reg (Some c.in-Some-2.told)
    (sym c.in_default.is ∙ c.in_ok-told.ensures ∙ ap (λ lanes. told_of (does.links_of lanes) c.args.reg) c.deref.ensures.value)
    (sym c.in-Some-2.is ∙ c.in_ok-told-2.ensures
    ∙ ap (λ conns. told_of (links_of g.A.Registry.seen conns) c.args.reg) c.deref-2.ensures.value))

pub returns-in-None : goal.returns-in-None
returns-in-None g c =
    c.new.ensures
    ∙ core_tells _ c.args.self.now c.args.reg None c.self.view_is
    (told_second _ _ c.args.reg None
    (sym c.in_default.is ∙ c.in_ok-told.ensures ∙ ap (λ lanes. told_of (does.links_of lanes) c.args.reg) c.deref.ensures.value)
    (sym c.in-None.is ∙ c.in_ok-told-2.ensures
    ∙ ap (λ conns. told_of (links_of g.A.Registry.seen conns) c.args.reg) c.deref-2.ensures.value))
