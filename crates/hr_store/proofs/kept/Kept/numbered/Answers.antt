use Rattle.std.proofs.Common.{◌≡◌, Some, None, Option, List, ap, subst, ◌∙◌}
use Rattle.std.specs.Option.{option_map}
use Rattle.hr_store.specs.Execution.{ExecState}
use Rattle.hr_store.specs.Store.{exec_numbered}
use Rattle.hr_store.specs.declared.held.Held.{Held}
use Rattle.hr_store.proofs.KeptLemmas.{keyed-lookup}
use Rattle.hr_store.proofs.kept.Kept.numbered.Goals as goal

pub returns-in-Some : goal.returns-in-Some
returns-in-Some c =
    let F : Option Held → Option ExecState = λ o. option_map (λ h. h.execution) o in
    let P : List ExecState → Type 0 = λ xs. Some c.in-Some.held.now.execution ≡ exec_numbered c.args.exec xs in
    subst P c.self.view_is (ap F c.in-Some.ensures.value ∙ keyed-lookup c.args.exec c.self.inside.by_number.entries c.self.invariant)

pub returns-in-None : goal.returns-in-None
returns-in-None c =
    let F : Option Held → Option ExecState = λ o. option_map (λ h. h.execution) o in
    let P : List ExecState → Type 0 = λ xs. None ≡ exec_numbered c.args.exec xs in
    subst P c.self.view_is (ap F c.in-None.ensures.value ∙ keyed-lookup c.args.exec c.self.inside.by_number.entries c.self.invariant)
