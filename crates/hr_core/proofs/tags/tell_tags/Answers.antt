use Rattle.std.proofs.Common.{◌∙◌, ap, map, sym}
use Rattle.hr_promise.specs.Answer.{tag_told}
use Rattle.hr_core.proofs.TagsLemmas.{is_found}
use Rattle.hr_core.proofs.tags.tell_tags.Goals as goal

pub returns-then-eq : goal.returns-then-eq
returns-then-eq g c =
    is_found g.A.Registry.seen c.args.conns.now c.loop-at.at c.index-conns-at.result c.args.reg c.loop-at-test.true
    c.index-conns-at.is c.loop-at.invariant (sym c.eq.ensures ∙ c.if-eq.true) c.in_ok-tell_all.field-0
    (c.in_ok-tell_all.ensures ∙ ap (map tag_told) c.in_ok-shown.ensures)
