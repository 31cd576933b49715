use Rattle.std.proofs.lemmas.Result.{err_from_is_err_and}
use Rattle.hr_memreg.proofs.PutLemmas.{begins_done, begins_memory, begins_stuck}
use Rattle.hr_memreg.proofs.calls.MemRegistryRegistry.begin_put.Goals as goal

pub returns-in_err-operate : goal.returns-in_err-operate
returns-in_err-operate c =
    let p = err_from_is_err_and c.from_residual.result c.from_residual.ensures.1 in
    rw (p.1, p.2)
    (begins_stuck c.args.repo.now c.args.self.now c.drop_writing.new.self c.operate.new.self c.in_err-operate.field-0.0
    c.drop_writing.ensures c.in_err-operate.ensures)

pub returns-in_err-begin : goal.returns-in_err-begin
returns-in_err-begin c =
    let p = err_from_is_err_and c.from_residual-in_err-begin.result c.from_residual-in_err-begin.ensures.1 in
    rw (p.1, p.2)
    (begins_memory c.args.repo.now c.args.self.now c.drop_writing.new.self c.operate.new.self c.begin.new.self
    c.in_ok-operate.field-0 c.in_err-begin.field-0.0 c.drop_writing.ensures c.in_ok-operate.ensures c.in_err-begin.ensures)

pub returns : goal.returns
returns c =
    begins_done c.args.repo.now c.args.self.now c.drop_writing.new.self c.operate.new.self c.begin.new.self
    c.in_ok-operate.field-0 _ c.drop_writing.ensures c.in_ok-operate.ensures c.in_ok-begin.ensures
