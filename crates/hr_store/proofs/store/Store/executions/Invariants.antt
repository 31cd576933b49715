use Rattle.std.proofs.Common.{◌≡◌, map, take}
use Rattle.hr_store.specs.Execution.{exec_view}
use Rattle.hr_store.proofs.store.Store.executions.Given as goal

abbrev pub invariant-loop-i : goal.invariant-loop-i
invariant-loop-i l = l.all ≡ map exec_view (take l.i l.self.kept)
