-- A manifest is put after all that it lists.
use Rattle.std.proofs.Common.{◌≡◌, ℕ, ◌+◌, ◌≤◌, true, false, List, [], ◌∷◌, refl, sym, ◌∙◌, ap, subst, arith}
use Rattle.std.specs.Prelude.{map, ◌↔◌}
use Rattle.std.specs.List.{AllByRecursion, IsDistinct}
use Rattle.hr_digest.specs.declared.digest.Digest.{Digest}
use Rattle.hr_digest.specs.Order.{digest_eq, digests_equal}
use Rattle.hr_manifest.specs.declared.child.Child.{Child}
use Rattle.hr_manifest.specs.declared.child.ChildKind.{ChildKind}
use Rattle.hr_manifest.specs.declared.child.ChildKind.TheVariants as kind
use Rattle.hr_graph.specs.declared.need.Need.TheVariants as need
use Rattle.hr_graph.specs.declared.opened.Opened.{Opened}
use Rattle.hr_graph.specs.declared.opened.Finished.{Finished}
use Rattle.hr_graph.specs.Walk.{View, known}
use Rattle.hr_graph.specs.Step.{height_by, height_of}
use Rattle.hr_graph.specs.Sound.{IsChain, IsPassedAs, IsPassed, IsBelowAs, IsBelow, IsSound, ComesLast}
use Rattle.hr_graph.proofs.KnownLemmas.{distinct_head}
use Rattle.hr_graph.proofs.SoundLemmas.{parts, all_passed}

module _ (blobs : List (Digest × ℕ)) (manifests : List (Digest × Finished)) (level : ℕ) where
  kind_below : (k : ChildKind) (c : Child) (height : ℕ) → IsPassedAs blobs manifests k level c
      → height_by k (known c.digest manifests) ≤ height → IsBelowAs blobs manifests height k c
  kind_below kind.Foreign c height h low = tt
  kind_below kind.Blob c height h low = h
  kind_below kind.Manifest c height h low =
      let e : height_by kind.Manifest (known c.digest manifests) ≡ h.height + 1 =
      ap (λ o. height_by kind.Manifest o) h.there in
      (record { len = c.size; height = h.height }, h.there, refl, omega (arith, e, low))

  each_below : (cs : List Child) (height : ℕ) → AllByRecursion (IsPassed blobs manifests level) cs
      → height_of manifests cs ≤ height → AllByRecursion (IsBelow blobs manifests height) cs
  each_below [] height h low = tt
  each_below (c ∷ cs) height h low =
      (kind_below c.kind c height h.0 (omega (arith, low)), each_below cs height h.1 (omega (arith, low)))

-- the oldest open manifest is the root
oldest_apart : (root d : Digest) (o : Opened) (below : List Opened) → IsChain root (o ∷ below)
    → AllByRecursion (λ y. digest_eq d y ≡ false) (map (λ p. p.digest) (o ∷ below)) → digest_eq d root ≡ false
oldest_apart root d o [] chain apart =
    let P : Digest → Type 0 = λ y. digest_eq d y ≡ false in subst P chain.0.over.0 apart.0
oldest_apart root d o (p ∷ below) chain apart = oldest_apart root d p below chain.1 apart.1

root_oldest : (root : Digest) (o : Opened) (below : List Opened) → IsChain root (o ∷ below)
    → IsDistinct digest_eq (map (λ p. p.digest) (o ∷ below)) → (below ≡ []) ↔ (o.digest ≡ root)
root_oldest root o [] chain once = (λ _. chain.0.over.0, λ _. refl)
root_oldest root o (p ∷ below) chain once =
    let apart = oldest_apart root o.digest p below chain.1
    (distinct_head o.digest (map (λ q. q.digest) (p ∷ below)) once) in (
      λ e. absurd (let no : ⊥ = cc in no),
      λ e. absurd (let same : digest_eq o.digest root ≡ true = ap (λ y. digest_eq o.digest y) (sym e) ∙ digests_equal.refl o.digest in
          let no : ⊥ = cc in no),
    )

last_at : (root : Digest) (opened : List Opened) (blobs : List (Digest × ℕ)) (manifests : List (Digest × Finished)) (d : Digest)
    → IsSound (parts root opened blobs manifests (need.PutManifest d))
    → ComesLast (parts root opened blobs manifests (need.PutManifest d)) d
last_at root [] blobs manifests d s = absurd s.asks
last_at root (o ∷ below) blobs manifests d s = record {
  newest = o;
  below = below;
  opened = refl;
  named = s.asks.0;
  each = each_below blobs manifests (o.level + 1) o.manifest.children (height_of manifests o.manifest.children)
      (all_passed blobs manifests o s.steady.passed.0 s.asks.1) (omega arith);
  oldest =
      let P : Digest → Type 0 = λ y. (below ≡ []) ↔ (y ≡ root) in
      subst P s.asks.0 (root_oldest root o below s.steady.chain s.steady.once_open);
}

pub comes_last : (v : View) (d : Digest) → IsSound v → v.need ≡ need.PutManifest d → ComesLast v d
comes_last v d s is =
    let e : v ≡ record v { need = need.PutManifest d } = ap (λ n. parts v.root v.opened v.blobs v.manifests n) is in
    let P : View → Type 0 = IsSound in
    let Q : View → Type 0 = λ w. ComesLast w d in
    subst Q (sym e) (last_at v.root v.opened v.blobs v.manifests d (subst P e s))
