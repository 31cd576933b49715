use Rattle.std.proofs.Common.{List, sym, subst, ap, ◌∙◌}
use Rattle.std.specs.List.{All}
use Rattle.hr_manifest.specs.Canonical.{index_text}
use Rattle.hr_text.specs.Escaping.{IsUnescaped}
use Rattle.hr_manifest.specs.declared.child.Child.{Child}
use Rattle.hr_opening.proofs.StoreLemmas.{children_plain, index_made}
use Rattle.hr_opening.proofs.storing.store_index.Goals as goal

pub returns : goal.returns
returns c = record {
  ok = index_made c.args.content.now c.args.repo.now c.args.tag.now c.args.children.now c.in-Ok.children c.in_ok-of.field-0 c.in_ok-write_index.field-0 c.store_tagged.new.content
      c.in-Ok.ensures.ok c.in_ok-store_tagged.ensures c.in_ok-of.ensures (c.in_ok-write_index.ensures.text ∙ ap index_text c.view.ensures);
  reference = λ e. cc e;
}

pub write_index-requires : goal.write_index-requires
write_index-requires c =
    subst (λ (l : List Child). All (λ child. IsUnescaped child.media) l) (sym c.view.ensures)
    (children_plain c.args.content.now c.args.repo.now c.args.children.now c.in-Ok.children c.requires.plain c.in-Ok.ensures.ok)
