use Rattle.std.proofs.lemmas.Result.{err_from_is_err_and}
use Rattle.std.proofs.Common.{◌∙◌, ap, length}
use Rattle.std.specs.Option.{option_map}
use Rattle.hr_adapter.specs.Content.{blob_at}
use Rattle.hr_memreg.proofs.CallLemmas.{finds_by, finds_err}
use Rattle.hr_memreg.proofs.calls.MemRegistryRegistry.has_blob.Goals as goal

pub returns-in_err-ask : goal.returns-in_err-ask
returns-in_err-ask c =
    let p = err_from_is_err_and c.from_residual.result c.from_residual.ensures.1 in
    rw (p.1, p.2)
    (finds_err c.args.repo.now c.args.digest.now c.args.self.now c.ask.new.self _ c.in_err-ask.ensures)

pub returns : goal.returns
returns c =
    finds_by c.args.repo.now c.args.digest.now c.args.self.now c.ask.new.self _ c.blob_len.result c.in_ok-ask.ensures
    (c.blob_len.ensures.value ∙ ap (λ held. option_map length (blob_at held c.args.repo.now c.args.digest.now)) c.held.ensures)
    c.blob_len.ensures.small
