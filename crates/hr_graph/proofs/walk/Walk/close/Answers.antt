use Rattle.std.proofs.Common.{◌≡◌, ◌∙◌, ◌-◌, ap, sym, subst, reverse, take, arith, List}
use Rattle.hr_digest.specs.declared.digest.Digest.{Digest}
use Rattle.hr_graph.specs.declared.opened.Finished.{Finished}
use Rattle.hr_graph.specs.Fields.{view_of}
use Rattle.hr_graph.specs.Meeting.{moved_to}
use Rattle.hr_graph.specs.Sound.{IsSound}
use Rattle.hr_graph.proofs.StepLemmas.{put_ok, put_keeps, put_err, put_back}
use Rattle.hr_graph.proofs.walk.Walk.close.Goals as goal

pub invariant_of-self-in-Ok : goal.invariant_of-self-in-Ok
invariant_of-self-in-Ok c =
    put_keeps _ _ _ _ _ c.args.self.now c.self.view_is c.self.invariant c.index-newest.result.now c.len-lower.result
    (omega (arith, c.self.inside.opened.ok)) c.index-newest.ensures c.requires.asked _ c.bytes.ensures _ c.children.ensures
    _ c.height.ensures _ c.in_ok-insert.ensures.entries _ (ap (take (c.len-lower.result - 1)) c.deref.ensures.value) _ c.next_in.ensures c.in-Ok.next
    c.move_to.new.opened.items c.in-Ok.is (c.move_to.ensures ∙ ap (λ l. moved_to c.in-Ok.next.at (reverse l)) (c.truncate.ensures.items ∙ ap (take (c.len-lower.result - 1)) (sym c.deref.ensures.value)))

pub invariant_of-self-in-Err : goal.invariant_of-self-in-Err
invariant_of-self-in-Err c =
    let e : c.pop.new.self.entries ≡ c.self.inside.manifests.entries =
    put_back _ _ _ _ _ c.args.self.now c.self.view_is c.self.invariant c.index-newest.result.now c.len-lower.result
    (omega (arith, c.self.inside.opened.ok)) c.index-newest.ensures c.requires.asked _ c.bytes.ensures _ c.children.ensures
    _ c.height.ensures _ c.in_ok-insert.ensures.entries _ (ap (take (c.len-lower.result - 1)) c.deref.ensures.value) _ c.next_in.ensures c.pop.result _ c.pop.ensures.entries c.pop.ensures.found in
    let P : List (Digest × Finished) → Type 0 =
    λ l. IsSound (view_of c.self.inside.root c.self.inside.opened.items c.self.inside.blobs.entries l c.self.inside.need) in
    subst P (sym e) c.self.invariant

pub returns-in-Ok-clause-ok : goal.returns-in-Ok-clause-ok
returns-in-Ok-clause-ok c =
    put_ok _ _ _ _ _ c.args.self.now c.self.view_is c.self.invariant c.index-newest.result.now c.len-lower.result
    (omega (arith, c.self.inside.opened.ok)) c.index-newest.ensures c.requires.asked _ c.bytes.ensures _ c.children.ensures
    _ c.height.ensures _ c.in_ok-insert.ensures.entries _ (ap (take (c.len-lower.result - 1)) c.deref.ensures.value) _ c.next_in.ensures c.in-Ok.next
    c.move_to.new.opened.items c.in-Ok.is (c.move_to.ensures ∙ ap (λ l. moved_to c.in-Ok.next.at (reverse l)) (c.truncate.ensures.items ∙ ap (take (c.len-lower.result - 1)) (sym c.deref.ensures.value)))

pub returns-in-Err-clause-err : goal.returns-in-Err-clause-err
returns-in-Err-clause-err c = λ _.
    put_err _ _ _ _ _ c.args.self.now c.self.view_is c.self.invariant c.index-newest.result.now c.len-lower.result
    (omega (arith, c.self.inside.opened.ok)) c.index-newest.ensures c.requires.asked _ c.bytes.ensures _ c.children.ensures
    _ c.height.ensures _ c.in_ok-insert.ensures.entries _ (ap (take (c.len-lower.result - 1)) c.deref.ensures.value) _ c.next_in.ensures c.in-Err.why c.in-Err.is

pub returns-in-Err-clause-unchanged : goal.returns-in-Err-clause-unchanged
returns-in-Err-clause-unchanged c =
    let e : c.pop.new.self.entries ≡ c.self.inside.manifests.entries =
    put_back _ _ _ _ _ c.args.self.now c.self.view_is c.self.invariant c.index-newest.result.now c.len-lower.result
    (omega (arith, c.self.inside.opened.ok)) c.index-newest.ensures c.requires.asked _ c.bytes.ensures _ c.children.ensures
    _ c.height.ensures _ c.in_ok-insert.ensures.entries _ (ap (take (c.len-lower.result - 1)) c.deref.ensures.value) _ c.next_in.ensures c.pop.result _ c.pop.ensures.entries c.pop.ensures.found in
    ap (λ l. view_of c.self.inside.root c.self.inside.opened.items c.self.inside.blobs.entries l c.self.inside.need) e
    ∙ c.self.view_is
