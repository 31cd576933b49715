use Rattle.std.proofs.Common.{◌≡◌, map, take}
use Rattle.hr_store.specs.Execution.{row_view}
use Rattle.hr_store.proofs.execution.Execution.tasks.Given as goal

abbrev pub invariant-loop-row : goal.invariant-loop-row
invariant-loop-row l = l.all ≡ map (row_view l.self.exec) (take l.row-index l.self.rows)
