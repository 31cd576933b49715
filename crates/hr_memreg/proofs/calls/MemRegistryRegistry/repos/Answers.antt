use Rattle.std.proofs.lemmas.Result.{err_from_is_err_and}
use Rattle.hr_memreg.proofs.CallLemmas.{repos_by, repos_err}
use Rattle.hr_memreg.proofs.calls.MemRegistryRegistry.repos.Goals as goal

pub returns-in_err-ask : goal.returns-in_err-ask
returns-in_err-ask c =
    let p = err_from_is_err_and c.from_residual.result c.from_residual.ensures.1 in
    rw (p.1, p.2)
    (repos_err c.args.self.now c.ask.new.self _ c.in_err-ask.ensures)

pub returns : goal.returns
returns c =
    repos_by c.args.self.now c.ask.new.self _ c.list_repos.result c.in_ok-ask.ensures
    c.list_repos.ensures.gives c.list_repos.ensures.ordered
