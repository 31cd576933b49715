use Rattle.std.proofs.Common.{◌∙◌, ap, sym}
use Rattle.hr_core.specs.Tags.{told_of}
use Rattle.hr_core.proofs.TagsLemmas.{second_tells, told_first}
use Rattle.hr_core.proofs.tags.tell_lane.Goals as goal

pub returns-in-Some : goal.returns-in-Some
returns-in-Some g c =
    told_first c.args.lane.now.sources c.args.lane.now.dests c.args.reg c.in-Some.told
    (sym c.in-Some.is ∙ c.in_ok-told.ensures ∙ ap (λ links. told_of links c.args.reg) c.sources.ensures)

pub returns-in-None : goal.returns-in-None
returns-in-None g c =
    second_tells c.args.lane.now.sources c.args.lane.now.dests _ c.args.reg c.tell_tags-in-None.result
    (sym c.in-None.is ∙ c.in_ok-told.ensures ∙ ap (λ links. told_of links c.args.reg) c.sources.ensures) c.dests.ensures
    c.tell_tags-in-None.ensures
