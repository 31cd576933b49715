use Rattle.std.proofs.Common.{ℕ, List, ap, ◌∙◌, rules, subst, sym}
use Rattle.indexmap.proofs.CallerLemmas.{filter-RetainsPairs}
use Rattle.hr_store.specs.Execution.{ExecState}
use Rattle.hr_store.specs.Kept.{AreKeyed, execs_in}
use Rattle.hr_store.specs.Sweeping.{kept_by}
use Rattle.hr_store.specs.declared.held.Held.{Held}
use Rattle.hr_store.proofs.SweepLemmas.{unmarked-kept, unmarked-keyed}
use Rattle.hr_store.proofs.sweeping.drop_ended.Goals as goal

pub returns-clause-kept : goal.returns-clause-kept
returns-clause-kept c =
    let left = filter-RetainsPairs _ _ _ (λ k v b w g call. search rules) _ _ c.retain.ensures.filtered in
    let E : List (ℕ × Held) → List ExecState = λ es. execs_in es in
    let K : List ExecState → List ExecState = λ es. kept_by c.args.keep es in
    ap E left ∙ (unmarked-kept c.args.keep c.mark.new.entries.entries c.mark.ensures.marked.marked ∙ ap K c.mark.ensures.marked.same)

pub returns-clause-keyed : goal.returns-clause-keyed
returns-clause-keyed c =
    let left = filter-RetainsPairs _ _ _ (λ k v b w g call. search rules) _ _ c.retain.ensures.filtered in
    let P : List (ℕ × Held) → Type 0 = λ es. AreKeyed es in
    subst P (sym left) (unmarked-keyed c.mark.new.entries.entries (c.mark.ensures.marked.keyed c.requires.keyed))
