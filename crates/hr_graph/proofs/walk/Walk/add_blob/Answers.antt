use Rattle.std.proofs.Common.{◌≡◌, sym, ◌∙◌, ap, subst, List, ℕ}
use Rattle.hr_digest.specs.declared.digest.Digest.{Digest}
use Rattle.hr_graph.specs.Sound.{IsSound}
use Rattle.hr_graph.specs.Fields.{view_of}
use Rattle.hr_graph.proofs.StepLemmas.{blob_ok, blob_keeps, blob_err, blob_back}
use Rattle.hr_graph.proofs.walk.Walk.add_blob.Goals as goal

pub invariant_of-self-in-Ok : goal.invariant_of-self-in-Ok
invariant_of-self-in-Ok c =
    blob_keeps _ _ _ _ _ c.args.self.now c.self.view_is c.args.digest c.args.len c.requires.asked c.self.invariant
    _ c.in_ok-insert.ensures.entries _ c.deref.ensures.value _ c.next_in.ensures c.in-Ok.next c.move_to.new.opened.items c.in-Ok.is c.move_to.ensures

pub invariant_of-self-in-Err : goal.invariant_of-self-in-Err
invariant_of-self-in-Err c =
    let e : c.pop.new.self.entries ≡ c.self.inside.blobs.entries =
    blob_back _ _ _ _ _ c.args.self.now c.self.view_is c.args.digest c.args.len c.requires.asked c.self.invariant
    _ c.in_ok-insert.ensures.entries _ c.deref.ensures.value _ c.next_in.ensures c.pop.result _ c.pop.ensures.entries c.pop.ensures.found in
    let P : List (Digest × ℕ) → Type 0 =
    λ l. IsSound (view_of c.self.inside.root c.self.inside.opened.items l c.self.inside.manifests.entries c.self.inside.need) in
    subst P (sym e) c.self.invariant

pub returns-in-Ok-clause-ok : goal.returns-in-Ok-clause-ok
returns-in-Ok-clause-ok c =
    blob_ok _ _ _ _ _ c.args.self.now c.self.view_is c.args.digest c.args.len c.requires.asked c.self.invariant
    _ c.in_ok-insert.ensures.entries _ c.deref.ensures.value _ c.next_in.ensures c.in-Ok.next c.move_to.new.opened.items c.in-Ok.is c.move_to.ensures

pub returns-in-Err-clause-err : goal.returns-in-Err-clause-err
returns-in-Err-clause-err c = λ _.
    blob_err _ _ _ _ _ c.args.self.now c.self.view_is c.args.digest c.args.len c.requires.asked c.self.invariant
    _ c.in_ok-insert.ensures.entries _ c.deref.ensures.value _ c.next_in.ensures c.in-Err.why c.in-Err.is

pub returns-in-Err-clause-unchanged : goal.returns-in-Err-clause-unchanged
returns-in-Err-clause-unchanged c =
    let e : c.pop.new.self.entries ≡ c.self.inside.blobs.entries =
    blob_back _ _ _ _ _ c.args.self.now c.self.view_is c.args.digest c.args.len c.requires.asked c.self.invariant
    _ c.in_ok-insert.ensures.entries _ c.deref.ensures.value _ c.next_in.ensures c.pop.result _ c.pop.ensures.entries c.pop.ensures.found in
    ap (λ l. view_of c.self.inside.root c.self.inside.opened.items l c.self.inside.manifests.entries c.self.inside.need) e
    ∙ c.self.view_is
