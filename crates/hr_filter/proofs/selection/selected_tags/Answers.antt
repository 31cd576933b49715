use Rattle.std.proofs.Common.{◌↔◌, ◌++◌, ◌∷◌, [], IsTrue, List, take, ap, sym, subst, ◌∙◌}
use Rattle.std.specs.BTreeSet.{contains}
use Rattle.std.proofs.lemmas.Bool.{iff_false}
use Rattle.std.proofs.lemmas.List.{take_more}
use Rattle.hr_filter.specs.declared.listed.Listed.{Listed}
use Rattle.hr_filter.specs.Selection.{IsSelected, repo_tag_cmp}
use Rattle.hr_filter.proofs.SelectionLemmas.{selected_more, selected_same}
use Rattle.hr_filter.proofs.selection.selected_tags.Goals.{then-meets_each+in_ok-copy+in_ok-copy-2+in_ok-insert, else-meets_each}
use Rattle.hr_filter.proofs.selection.selected_tags.Goals as goal

pub loop-listed-preserved : goal.loop-listed-preserved
loop-listed-preserved c = λ tag.
    let it = c.listed-item.result in
    let so_far = take c.loop-listed.listed-index c.args.listing.now in
    let cut = take_more c.args.listing.now c.loop-listed.listed-index it c.loop-listed-test.true
    ∙ ap (λ (l : Listed). so_far ++ l ∷ []) (sym c.listed-item.is) in
    subst (λ (ls : List Listed). IsTrue (contains repo_tag_cmp c.if-meets_each.selected tag) ↔ IsSelected c.args.filters.now ls tag) (sym cut)
    (elim c.if-meets_each.branch [
      | then-meets_each+in_ok-copy+in_ok-copy-2+in_ok-insert w ↦
          selected_more c.args.filters.now so_far it tag (contains repo_tag_cmp c.loop-listed.selected tag) (contains repo_tag_cmp c.if-meets_each.selected tag)
          w.in_ok-copy.field-0 w.in_ok-copy-2.field-0 w.in_ok-copy.ensures w.in_ok-copy-2.ensures
          (ap (λ s. contains repo_tag_cmp s tag) w.selected-is ∙ w.in_ok-insert.ensures.updates.0 tag)
          (c.loop-listed.invariant tag) (c.meets_each.ensures.0 w.if-meets_each.true)
      | else-meets_each w ↦
          subst (λ s. IsTrue (contains repo_tag_cmp s tag) ↔ IsSelected c.args.filters.now (so_far ++ it ∷ []) tag) (sym w.selected-is)
          (selected_same c.args.filters.now so_far it tag (contains repo_tag_cmp c.loop-listed.selected tag)
          (c.loop-listed.invariant tag) (iff_false c.meets_each.ensures w.if-meets_each.false))
    ])
