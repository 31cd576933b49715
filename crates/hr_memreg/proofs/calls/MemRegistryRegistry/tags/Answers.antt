use Rattle.std.proofs.lemmas.Result.{err_from_is_err_and}
use Rattle.hr_memreg.proofs.CallLemmas.{tags_by, tags_err}
use Rattle.hr_memreg.proofs.calls.MemRegistryRegistry.tags.Goals as goal

pub returns-in_err-ask : goal.returns-in_err-ask
returns-in_err-ask c =
    let p = err_from_is_err_and c.from_residual.result c.from_residual.ensures.1 in
    rw (p.1, p.2)
    (tags_err c.args.repo.now c.args.self.now c.ask.new.self _ c.in_err-ask.ensures)

pub returns : goal.returns
returns c =
    tags_by c.args.repo.now c.args.self.now c.ask.new.self _ c.list_tags.result c.in_ok-ask.ensures
    c.list_tags.ensures.gives c.list_tags.ensures.ordered
