use Rattle.std.proofs.Common.{IsTrue, ◌↔◌}
use Rattle.std.specs.Ordering.{nat_cmp}
use Rattle.std.specs.BTreeSet as ordered
use Rattle.hr_cause.specs.Calls.{IsPlanned}
use Rattle.hr_cause.proofs.CallLemmas.{planned}
use Rattle.hr_cause.proofs.calls.Calls.call.Goals as goal

pub returns-clause-exact : goal.returns-clause-exact
returns-clause-exact c =
    let told : IsTrue c.is_planned-planned.result ↔ IsPlanned c.self.inside.listed.value c.self.inside.calls =
    planned (ordered.contains nat_cmp c.self.inside.failing) _ _ _ c.self.invariant.0 c.self.invariant.1 c.is_planned-planned.ensures
    in
    rw (← c.self.view_is) (record { unplanned = λ found. (let yes = told.1 found in cc); after = cc })
