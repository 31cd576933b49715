use Rattle.std.proofs.lemmas.Result.{err_from_is_err_and}
use Rattle.hr_memreg.proofs.CallLemmas.{opens_by, opens_err, opens_memory}
use Rattle.hr_memreg.proofs.calls.MemRegistryRegistry.open_blob.Goals as goal

pub returns-in_err-ask : goal.returns-in_err-ask
returns-in_err-ask c =
    let p = err_from_is_err_and c.from_residual.result c.from_residual.ensures.1 in
    rw (p.1, p.2)
    (opens_err c.args.repo.now c.args.digest.now c.args.self.now c.close.new.self c.ask.new.self _ c.close.ensures
    c.in_err-ask.ensures)

pub returns-in_err-open : goal.returns-in_err-open
returns-in_err-open c =
    let p = err_from_is_err_and c.from_residual-in_err-open.result c.from_residual-in_err-open.ensures.1 in
    rw (p.1, p.2)
    (opens_memory c.args.repo.now c.args.digest.now c.args.self.now c.close.new.self c.ask.new.self c.open.new.self _
    c.in_err-open.field-0.0 c.close.ensures c.in_ok-ask.ensures c.in_err-open.ensures)

pub returns : goal.returns
returns c =
    opens_by c.args.repo.now c.args.digest.now c.args.self.now c.close.new.self c.ask.new.self c.open.new.self _ _ c.close.ensures
    c.in_ok-ask.ensures c.in_ok-open.ensures
