use Rattle.std.proofs.Common.{Some, sym, ap, ◌∙◌}
use Rattle.hr_call.specs.Reading.{tag_in}
use Rattle.hr_json.specs.Node.{value_of, values_of}
use Rattle.hr_wire.proofs.EachLemmas.{IsNext, each_next, each_none}
use Rattle.hr_wire.proofs.listings.listed_tags.Goals as goal

pub loop-at-preserved : goal.loop-at-preserved
loop-at-preserved c =
    let next : IsNext tag_in (values_of c.args.items.now) c.loop-at.at (value_of c.in-Some.item) c.loop-at.tags =
    record { there = sym c.in-Some.ensures; before = c.loop-at.invariant } in
    each_next tag_in (values_of c.args.items.now) c.loop-at.at (value_of c.in-Some.item) c.loop-at.tags c.in-Some-2.tag next (sym c.in_ok-tag.ensures ∙ c.in-Some-2.is)
    ∙ ap Some (sym c.in_ok-push.ensures.ok)

pub returns-in_default-2 : goal.returns-in_default-2
returns-in_default-2 c =
    sym (each_none tag_in (values_of c.args.items.now) c.loop-at.at (value_of c.in-Some.item) (sym c.in-Some.ensures) (sym c.in_ok-tag.ensures ∙ c.in_default-2.is))
