use Rattle.std.proofs.Common.{◌≡◌, sym, subst, List, [], Some}
use Rattle.hr_store.specs.Execution.{ExecState}
use Rattle.hr_store.specs.Store.{IsSound, StoreState, exec_numbered}
use Rattle.hr_store.proofs.SoundLemmas.{sound-failed}
use Rattle.hr_store.proofs.store.Store.mark_failed.Goals as goal

pub invariant_of-self : goal.invariant_of-self
invariant_of-self c =
    let P : List ExecState → Type 0 = λ ks. IsSound c.self.inside.limit c.self.inside.jobs c.self.inside.made ks c.self.inside.counts in
    let R : StoreState → Type 0 = λ v. (e : ExecState) → exec_numbered c.args.exec.0 v.kept ≡ Some e → e.rows ≡ [] in
    subst P (sym c.fail.ensures) (sound-failed _ _ _ c.args.exec.0 _ _ c.self.invariant (subst R (sym c.self.view_is) c.requires))
