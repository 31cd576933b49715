use Rattle.std.proofs.Common.{◌++◌, List, ℕ, ap, ◌∙◌}
use Rattle.hr_wire.specs.Listing.{quoted}
use Rattle.hr_wire.proofs.PieceLemmas.{further_item}
use Rattle.hr_wire.proofs.listings.put_tags.Goals as goal

pub loop-tag-preserved : goal.loop-tag-preserved
loop-tag-preserved c =
    let put = c.in_ok-put_quoted-2.ensures ∙ ap (λ (t : List ℕ). c.extend_from_slice.new.self.items ++ quoted t) c.view-in-loop-tag.ensures.value in
    further_item quoted c.args.text.now.items c.loop-tag.text.items c.extend_from_slice.new.self.items c.put_quoted-in-loop-tag.new.text.items c.args.tags.now c.in-Some.others.now c.in-Some.first.now c.tag-item.result c.loop-tag.tag-index
    c.in-Some.ensures.cases.0 c.loop-tag-test.true c.tag-item.is c.loop-tag.invariant c.in_ok-extend_from_slice.ensures.items put
