use Rattle.std.proofs.Common.{sym, ◌∙◌}
use Rattle.hr_opening.proofs.StoreLemmas.{child_is_none, child_read}
use Rattle.hr_opening.proofs.storing.find_child.Goals as goal

pub returns : goal.returns
returns c = record {
  ok = child_read c.args.content.now c.args.repo.now c.args.tag.now c.in-Some.digest c.in-Some-manifest.manifest.now c.view.result.now c.in_ok-copy.field-0
      (sym c.named.ensures ∙ c.in-Some.is) (sym c.in-Some-manifest.ensures) c.view.ensures c.in_ok-copy.ensures;
  reference = λ e. cc e;
}

pub returns-in_default : goal.returns-in_default
returns-in_default c = record {
  ok = tt;
  reference = λ e. child_is_none c.args.content.now c.args.repo.now c.args.tag.now (sym c.named.ensures ∙ c.in_default.is);
}
