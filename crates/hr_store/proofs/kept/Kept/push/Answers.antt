use Rattle.std.proofs.Common.{◌≡◌, None, List, ap, sym, subst, ◌∙◌, ◌++◌, ◌∷◌, [], false, nat_eq, ℕ}
use Rattle.indexmap.proofs.CallerLemmas.{insert_entry-new}
use Rattle.hr_store.specs.Execution.{ExecState}
use Rattle.hr_store.specs.Kept.{AreKeyed, execs_in}
use Rattle.hr_store.specs.Store.{exec_numbered}
use Rattle.hr_store.specs.declared.held.Held.{Held}
use Rattle.hr_store.proofs.KeptLemmas.{absent, execs-push, keyed-push}
use Rattle.hr_store.proofs.kept.Kept.push.Goals as goal

entries-are : (c : goal.Joined-branch-2) → c.insert.new.self.entries ≡ c.self.inside.by_number.entries ++ (c.exec-number.result, record { execution = c.args.execution; dropped = false }) ∷ []
entries-are c =
    let P : List ExecState → Type 0 = λ xs. exec_numbered c.args.execution.exec xs ≡ None in
    let Q : ℕ → Type 0 = λ n. exec_numbered n (execs_in c.self.inside.by_number.entries) ≡ None in
    c.in_ok-insert.ensures.entries ∙ insert_entry-new nat_eq c.self.inside.by_number c.exec-number.result (record { execution = c.args.execution; dropped = false })
    (absent c.exec-number.result c.self.inside.by_number.entries c.self.invariant (subst Q (sym c.exec-number.ensures) (subst P (sym c.self.view_is) c.requires)))

pub invariant_of-self-2 : goal.invariant_of-self-2
invariant_of-self-2 c =
    let P : List (ℕ × Held) → Type 0 = λ es. AreKeyed es in
    subst P (sym (entries-are c)) (keyed-push c.self.inside.by_number.entries (c.exec-number.result, record { execution = c.args.execution; dropped = false }) c.self.invariant c.exec-number.ensures)

pub returns-clause-ok : goal.returns-clause-ok
returns-clause-ok c =
    let F : List (ℕ × Held) → List ExecState = λ es. execs_in es in
    let G : List ExecState → List ExecState = λ xs. xs ++ c.args.execution ∷ [] in
    ap F (entries-are c) ∙ (execs-push c.self.inside.by_number.entries (c.exec-number.result, record { execution = c.args.execution; dropped = false }) ∙ ap G c.self.view_is)
