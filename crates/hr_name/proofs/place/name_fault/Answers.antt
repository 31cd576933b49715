use Rattle.std.proofs.Common.{◌≡◌, Some, None, length, take, subst, arith}
use Rattle.hr_name.specs.Place.{Alike, front_of}
use Rattle.hr_name.proofs.ReachLemmas.{fault_tells, name_fault_here, name_at_end, name_fault_at_end}
use Rattle.hr_name.proofs.place.name_fault.Goals as goal

pub returns-in_default-clause-place : goal.returns-in_default-clause-place
returns-in_default-clause-place c = name_fault_here c.args.text.now c.loop-at.at 0 c.loop-at.place c.loop-at-test.true c.loop-at.invariant c.in_default.ensures

pub returns-in-Run-clause-place : goal.returns-in-Run-clause-place
returns-in-Run-clause-place c =
    let e : c.loop-at.at ≡ length c.args.text.now = omega arith in
    name_at_end c.args.text.now (subst (λ place. Alike (take (length c.args.text.now) c.args.text.now) (front_of place)) c.in-Run.is
    (subst (λ n. Alike (take n c.args.text.now) (front_of c.loop-at.place)) e c.loop-at.invariant))

pub returns-in_default-place-clause-place : goal.returns-in_default-place-clause-place
returns-in_default-place-clause-place c =
    let e : c.loop-at.at ≡ length c.args.text.now = omega arith in
    name_fault_at_end c.args.text.now c.loop-at.place c.in_default-place.not-Run
    (subst (λ n. Alike (take n c.args.text.now) (front_of c.loop-at.place)) e c.loop-at.invariant)

pub returns-in_default-clause-test : goal.returns-in_default-clause-test
returns-in_default-clause-test c = fault_tells c.args.text.now (Some c.loop-at.at) (returns-in_default-clause-place c)

pub returns-in-Run-clause-test : goal.returns-in-Run-clause-test
returns-in-Run-clause-test c = fault_tells c.args.text.now None (returns-in-Run-clause-place c)

pub returns-in_default-place-clause-test : goal.returns-in_default-place-clause-test
returns-in_default-place-clause-test c = fault_tells c.args.text.now (Some (length c.args.text.now)) (returns-in_default-place-clause-place c)
