use Rattle.std.proofs.Common.{◌≡◌, ℕ, ◌+◌, ◌<◌, ◌∷◌, suc, drop, get_or, max, length, arith, sym, ◌∙◌, ap, add-one, List}
use Rattle.std.proofs.Math.Seq.{drop-cons}
use Rattle.hr_digest.specs.declared.digest.Digest.{Digest}
use Rattle.hr_manifest.specs.declared.child.Child.{Child}
use Rattle.hr_graph.specs.declared.opened.Finished.{Finished}
use Rattle.hr_graph.specs.Step.{height_of, height_by}
use Rattle.hr_graph.specs.Walk.{known}
use Rattle.hr_graph.proofs.opened.height.Goals as goal

-- the height so far, and one child more
step : (manifests : List (Digest × Finished)) (children : List Child) (at : ℕ) (child : Child) (so_far now above all : ℕ)
    → at < length children → child ≡ get_or children at child
    → max so_far (height_of manifests (drop at children)) ≡ all
    → above ≡ height_of manifests (child ∷ Rattle.std.specs.Prelude.[]) → now ≡ max so_far above
    → max now (height_of manifests (drop (at + 1) children)) ≡ all
step manifests children at child so_far now above all below is before is_above is_now =
    let e : drop at children ≡ child ∷ drop (at + 1) children =
    rw (add-one at) (drop-cons children at child below ∙ ap (λ c. c ∷ drop (suc at) children) (sym is)) in
    let f : height_of manifests (drop at children) ≡ max (height_by child.kind (known child.digest manifests)) (height_of manifests (drop (at + 1) children)) =
    ap (height_of manifests) e in
    omega (arith, f, before, is_above, is_now)

pub loop-child-preserved : goal.loop-child-preserved
loop-child-preserved c =
    step c.args.manifests.now.entries c.args.children.now c.loop-child.child-index c.child-item.result
    c.loop-child.height c.max-height.result c.height_above.result _
    c.loop-child-test.true c.child-item.is c.loop-child.invariant c.height_above.ensures c.max-height.ensures
