use Rattle.std.proofs.Common.{◌≡◌, ◌+◌, drop, List, Err, ap, sym, subst, ◌∙◌}
use Rattle.hr_manifest.specs.declared.child.Child.{Child}
use Rattle.hr_opening.specs.Stored.{children_of}
use Rattle.hr_opening.specs.declared.storing.LineRefused.TheVariants.{Reference}
use Rattle.hr_opening.proofs.StoreLemmas.{behind, child_found, child_lacks, children_found}
use Rattle.hr_opening.proofs.storing.find_children.Goals as goal

pub loop-tag-preserved : goal.loop-tag-preserved
loop-tag-preserved c =
    let held = c.args.content.now in
    let items = c.view-tag-items.result.now in
    subst (λ (kids : List Child). children_of held c.args.repo.now items ≡ behind kids (children_of held c.args.repo.now (drop (c.loop-tag.tag-index + 1) items))) (sym c.in_ok-push-in-Ok.ensures.ok)
    (child_found held c.args.repo.now items c.loop-tag.tag-index c.loop-tag.children c.in-Ok.child c.tag-item.result c.loop-tag.invariant c.loop-tag-test.true c.tag-item.is c.in-Ok.ensures.ok)

pub returns : goal.returns
returns c = record {
  ok = ap (children_of c.args.content.now c.args.repo.now) (sym c.view-tag-items.ensures)
      ∙ children_found c.args.content.now c.args.repo.now c.view-tag-items.result.now c.loop-tag.tag-index c.loop-tag.children c.loop-tag.invariant c.loop-tag-test.false;
  reference = λ e. cc e;
}

pub returns-in-Err : goal.returns-in-Err
returns-in-Err c = record {
  ok = tt;
  reference = λ e.
      let same : c.in-Err.refused ≡ Reference = cc e in
      ap (children_of c.args.content.now c.args.repo.now) (sym c.view-tag-items.ensures)
      ∙ child_lacks c.args.content.now c.args.repo.now c.view-tag-items.result.now c.loop-tag.tag-index c.loop-tag.children c.tag-item.result c.loop-tag.invariant c.loop-tag-test.true c.tag-item.is (c.in-Err.ensures.reference (ap Err same));
}
