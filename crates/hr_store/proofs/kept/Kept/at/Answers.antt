use Rattle.std.proofs.Common.{◌≡◌, Some, List, slice_get, subst}
use Rattle.hr_store.specs.Execution.{ExecState}
use Rattle.hr_store.proofs.KeptLemmas.{execs-get}
use Rattle.hr_store.proofs.kept.Kept.at.Goals as goal

pub returns : goal.returns
returns c =
    let P : List ExecState → Type 0 = λ xs. slice_get xs c.args.at ≡ Some c.index.result.now.execution in
    subst P c.self.view_is (execs-get c.self.inside.by_number.entries c.args.at c.index.result.now c.index.ensures)
