use Rattle.std.proofs.Common.{arith, ◌≡◌, ap, ◌∙◌, sym, ℕ, Bool, ◌||◌, length}
use Rattle.std.specs.Prelude.{nat_eq}
use Rattle.std.specs.List.{count_by, list_all}
use Rattle.hr_store.specs.Execution.{ExecState, has_ended}
use Rattle.hr_store.specs.Row.{is_over}
use Rattle.hr_store.proofs.RowLemmas.{all-counted}
use Rattle.hr_store.proofs.execution.Execution.has_ended.Goals as goal

pub returns-else-self : goal.returns-else-self
returns-else-self c =
    let A : ℕ → Bool = λ n. nat_eq n c.len.result in
    let B : ℕ → Bool = λ n. nat_eq (count_by is_over c.self.inside.rows.items) n in
    let D : Bool → Bool = λ b. b || list_all is_over c.self.inside.rows.items in
    let H : ExecState → Bool = has_ended in
    let l : c.len.result ≡ length c.self.inside.rows.items = omega (arith, c.len.ensures) in
    ap A c.self.invariant.0.over_is ∙ (ap B l ∙ (all-counted is_over c.self.inside.rows.items ∙ (sym (ap D c.if-self.false) ∙ ap H c.self.view_is)))
