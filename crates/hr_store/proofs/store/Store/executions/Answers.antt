use Rattle.std.proofs.Common.{◌≡◌, ◌∙◌, ◌+◌, sym, ap, subst, List, [], ◌∷◌, ◌++◌, map, take, arith}
use Rattle.hr_event.specs.declared.view.ExecView.{ExecView}
use Rattle.hr_store.specs.Execution.{ExecState, exec_view}
use Rattle.hr_store.specs.Store.{StoreState}
use Rattle.hr_store.proofs.ListLemmas.{get-back, map-taken}
use Rattle.hr_store.proofs.store.Store.executions.Goals as goal

pub loop-i-preserved : goal.loop-i-preserved
loop-i-preserved c =
    let K : StoreState → List ExecState = λ s. s.kept in
    let k = ap K c.self.view_is in
    let P : List ExecState → Type 0 = λ xs. c.push.new.self ≡ map exec_view (take (c.loop-i.i + 1) xs) in
    let Q : List ExecState → Type 0 = λ xs. c.loop-i.all ≡ map exec_view (take c.loop-i.i xs) in
    let A : List ExecView → List ExecView = λ vs. vs ++ c.view.result ∷ [] in
    let B : ExecView → List ExecView = λ v. map exec_view (take c.loop-i.i c.self.inside.kept) ++ v ∷ [] in
    subst P k (c.in_ok-push.ensures.ok ∙ (ap A (subst Q (sym k) c.loop-i.invariant) ∙ (ap B c.view.ensures
    ∙ map-taken exec_view c.self.inside.kept c.loop-i.i c.at.result.now (omega arith) (get-back c.self.inside.kept c.loop-i.i c.at.result.now c.at.ensures))))
