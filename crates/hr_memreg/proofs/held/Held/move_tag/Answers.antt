use Rattle.std.proofs.Common.{◌∙◌, ap}
use Rattle.std.proofs.lemmas.Result.{on_ok_weaker}
use Rattle.hr_adapter.specs.Content.{with_tag}
use Rattle.hr_memreg.proofs.ItemLemmas.{tag_item}
use Rattle.hr_memreg.proofs.held.Held.move_tag.Goals as goal

pub returns-clause-ok : goal.returns-clause-ok
returns-clause-ok c =
    on_ok_weaker c.store.result
    (λ made. made ∙ tag_item c.args.self.now c.args.repo.now c.in_ok-tag.tag c.args.digest
    ∙ ap (λ t. with_tag c.args.self.now c.args.repo.now t c.args.digest) c.in_ok-tag.ensures)
    c.store.ensures.ok
