use Rattle.std.proofs.Common.{◌++◌, List, ℕ, ap, ◌∙◌}
use Rattle.hr_wire.specs.Listing.{quoted}
use Rattle.hr_wire.proofs.PieceLemmas.{further_item}
use Rattle.hr_wire.proofs.listings.put_names.Goals as goal

pub loop-name-preserved : goal.loop-name-preserved
loop-name-preserved c =
    let put = c.in_ok-put_quoted-2.ensures ∙ ap (λ (t : List ℕ). c.extend_from_slice.new.self.items ++ quoted t) c.view-in-loop-name.ensures.value in
    further_item quoted c.args.text.now.items c.loop-name.text.items c.extend_from_slice.new.self.items c.put_quoted-in-loop-name.new.text.items c.args.names.now c.in-Some.others.now c.in-Some.first.now c.name-item.result c.loop-name.name-index
    c.in-Some.ensures.cases.0 c.loop-name-test.true c.name-item.is c.loop-name.invariant c.in_ok-extend_from_slice.ensures.items put
