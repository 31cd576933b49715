use Rattle.std.proofs.Common.{◌≡◌, Some, List, ap, subst, ◌∙◌, set, slice_get, ℕ}
use Rattle.hr_store.specs.Execution.{ExecState}
use Rattle.hr_store.proofs.KeptLemmas.{execs-get, execs-set, keyed-set}
use Rattle.hr_store.proofs.kept.Kept.receive.Goals as goal

pub receive-requires-clause-at : goal.receive-requires-clause-at
receive-requires-clause-at c =
    let P : List ExecState → Type 0 = λ xs. slice_get xs c.args.at ≡ Some c.index_mut.result.now.execution in
    c.requires.place c.index_mut.result.now.execution (subst P c.self.view_is (execs-get c.self.inside.by_number.entries c.args.at c.index_mut.result.now c.index_mut.ensures.value))

pub receive-requires-clause-job : goal.receive-requires-clause-job
receive-requires-clause-job c =
    let P : List ExecState → Type 0 = λ xs. slice_get xs c.args.at ≡ Some c.index_mut.result.now.execution in
    λ row there. c.requires.job c.index_mut.result.now.execution row (subst P c.self.view_is (execs-get c.self.inside.by_number.entries c.args.at c.index_mut.result.now c.index_mut.ensures.value)) there

pub invariant_of-self : goal.invariant_of-self
invariant_of-self c =
    let E : ExecState → ℕ = λ e. e.exec in
    keyed-set c.self.inside.by_number.entries c.args.at c.index_mut.result.now _ c.self.invariant c.index_mut.ensures.value (ap E c.receive.ensures.same)

pub returns : goal.returns
returns c =
    let P : List ExecState → Type 0 = λ xs. slice_get xs c.args.at ≡ Some c.index_mut.result.now.execution in
    let S : List ExecState → List ExecState = λ xs. set xs c.args.at c.receive.new.self in
    record {
      exec = c.index_mut.result.now.execution;
      there = subst P c.self.view_is (execs-get c.self.inside.by_number.entries c.args.at c.index_mut.result.now c.index_mut.ensures.value);
      new = c.receive.new.self;
      set = execs-set c.self.inside.by_number.entries c.args.at (record { execution = c.receive.new.self; dropped = c.index_mut.result.now.dropped }) ∙ ap S c.self.view_is;
      receives = c.receive.ensures.receives;
      same = c.receive.ensures.same;
    }
