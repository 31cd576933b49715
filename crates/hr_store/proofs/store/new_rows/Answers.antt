use Rattle.std.proofs.Common.{arith, ap, sym, length, ◌≡◌, ◌∙◌, ◌++◌, ◌+◌, ◌∷◌, [], List, ℕ, append_assoc}
use Rattle.hr_store.specs.Row.{RowState}
use Rattle.hr_event.specs.declared.task.TaskSpec.{TaskSpec}
use Rattle.hr_store.proofs.ListLemmas.{left-over, length-snoc}
use Rattle.hr_store.proofs.OrderLemmas.{new_rows-push}
use Rattle.hr_store.proofs.store.new_rows.Goals as goal

pub overflow_add-job : goal.overflow_add-job
overflow_add-job c =
    let n = left-over c.loop-spec.yielded c.in-Some.spec c.args.specs c.loop-spec.spec-iterator.rest.items _ c.loop-spec.invariant.all_are c.in-Some.ensures.steps.0 in
    omega (arith, n, c.requires, c.loop-spec.invariant.job_is)

pub loop-spec-preserved : goal.loop-spec-preserved
loop-spec-preserved c =
    let n = length-snoc c.loop-spec.yielded c.in-Some.spec in
    let J : ℕ → RowState = λ j. record { job = j; spec = c.in-Some.spec; received = [] } in
    let A : List TaskSpec → List TaskSpec = λ xs. c.loop-spec.yielded ++ xs in
    let R : List RowState → List RowState = λ rs. rs ++ c.in_ok-new.field-0 ∷ [] in
    let j : c.loop-spec.job + 1 ≡ c.args.before + length c.loop-spec.yielded + 1 = omega (arith, c.loop-spec.invariant.job_is) in
    record {
      job_is = omega (arith, n, c.loop-spec.invariant.job_is);
      rows_are = c.in_ok-push.ensures.items ∙ (ap R c.loop-spec.invariant.rows_are ∙ new_rows-push c.args.before c.loop-spec.yielded c.in-Some.spec c.in_ok-new.field-0 (c.in_ok-new.ensures ∙ ap J j));
      all_are = c.loop-spec.invariant.all_are ∙ (ap A c.in-Some.ensures.steps.0 ∙ sym (append_assoc c.loop-spec.yielded (c.in-Some.spec ∷ []) c.next.new.self.rest.items));
    }
