use Rattle.std.proofs.Common.{◌≡◌, List, ap, sym, subst, ◌∙◌, ℕ}
use Rattle.hr_store.specs.Execution.{ExecState}
use Rattle.hr_store.specs.Kept.{AreKeyed, execs_in}
use Rattle.hr_store.specs.Store.{AreOrdered, execs_failing}
use Rattle.hr_store.specs.declared.held.Held.{Held}
use Rattle.hr_store.proofs.KeptLemmas.{execs-fail, keyed-fail, none-fails}
use Rattle.hr_store.proofs.kept.Kept.fail.Goals as goal

pub returns-in_default : goal.returns-in_default
returns-in_default c =
    let E : List (ℕ × Held) → List ExecState = λ es. execs_in es in
    let P : List ExecState → Type 0 = λ xs. E c.get_mut.follows.lender-at-none.entries ≡ execs_failing c.args.exec xs in
    subst P c.self.view_is (rw c.get_mut.follows.holds-at-none (sym (none-fails c.args.exec c.self.inside.by_number.entries c.self.invariant (sym c.in_default.ensures.value))))

pub invariant_of-self-2 : goal.invariant_of-self-2
invariant_of-self-2 c =
    let new : Held = record { execution = c.fail.new.self; dropped = c.in-Some.held.now.dropped } in
    let P : List (ℕ × Held) → Type 0 = λ es. AreKeyed es in
    let N : ExecState → ℕ = λ e. e.exec in
    subst P (sym (c.get_mut.follows.holds new).0) (keyed-fail c.args.exec c.in-Some.held.now new c.self.inside.by_number.entries c.self.invariant (sym c.in-Some.ensures.value) (ap N c.fail.ensures))

pub returns : goal.returns
returns c =
    let new : Held = record { execution = c.fail.new.self; dropped = c.in-Some.held.now.dropped } in
    let E : List (ℕ × Held) → List ExecState = λ es. execs_in es in
    let O : List ExecState → Type 0 = λ xs. AreOrdered 0 0 xs in
    let F : List ExecState → List ExecState = λ xs. execs_failing c.args.exec xs in
    ap E (c.get_mut.follows.holds new).0 ∙ (execs-fail 0 0 c.args.exec c.in-Some.held.now new c.self.inside.by_number.entries c.self.invariant (subst O (sym c.self.view_is) c.requires) (sym c.in-Some.ensures.value) c.fail.ensures ∙ ap F c.self.view_is)
