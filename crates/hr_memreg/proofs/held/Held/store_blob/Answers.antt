use Rattle.std.proofs.Common.{◌∙◌}
use Rattle.std.proofs.lemmas.Result.{on_ok_weaker}
use Rattle.hr_memreg.proofs.ItemLemmas.{blob_item}
use Rattle.hr_memreg.proofs.held.Held.store_blob.Goals as goal

pub returns-clause-ok : goal.returns-clause-ok
returns-clause-ok c =
    on_ok_weaker c.store.result (λ made. made ∙ blob_item _ c.args.repo.now c.args.digest c.args.blob) c.store.ensures.ok
