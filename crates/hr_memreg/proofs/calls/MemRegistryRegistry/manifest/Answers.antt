use Rattle.std.proofs.lemmas.Result.{err_from_is_err_and}
use Rattle.hr_memreg.proofs.CallLemmas.{fetches_by, fetches_err}
use Rattle.hr_memreg.proofs.calls.MemRegistryRegistry.manifest.Goals as goal

pub returns-in_err-ask : goal.returns-in_err-ask
returns-in_err-ask c =
    let p = err_from_is_err_and c.from_residual.result c.from_residual.ensures.1 in
    rw (p.1, p.2)
    (fetches_err c.args.repo.now c.args.reference.now c.args.self.now c.ask.new.self _ c.in_err-ask.ensures)

pub returns : goal.returns
returns c =
    fetches_by c.args.repo.now c.args.reference.now c.args.self.now c.ask.new.self _ c.fetch.result c.in_ok-ask.ensures
    c.fetch.ensures
