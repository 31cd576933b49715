-- How many pairs are reached of a graph whose blobs and manifests are listed.
use Rattle.std.proofs.Common.{◌≡◌, ◌≤◌, ℕ, zero, suc, ◌+◌, List, length, sym, ap, subst, arith, true}
use Rattle.std.specs.Prelude.{Contains}
use Rattle.std.specs.List.{AllByRecursion, IsDistinct}
use Rattle.std.specs.Bool.{Decides}
use Rattle.std.specs.Cmp.Lexicographic.{bytes_decides}
use Rattle.std.proofs.lemmas.Map.Made.{is_member-Decides, length-le_from_is_member}
use Rattle.hr_digest.specs.declared.digest.Digest.{Digest}
use Rattle.hr_digest.specs.declared.digest.Digest.TheVariants.{Sha256}
use Rattle.hr_digest.specs.Order.{digest_eq, digests_equal}
use Rattle.hr_name.specs.Name.{RepoName}
use Rattle.hr_manifest.specs.declared.child.Child.{Child}
use Rattle.hr_manifest.specs.declared.child.ChildKind.{ChildKind}
use Rattle.hr_manifest.specs.declared.child.ChildKind.TheVariants as kind
use Rattle.hr_graph.specs.Reached.{IsReachable, ListsChild, Reached}
use Rattle.hr_graph.specs.declared.opened.TheConstants.{PAIR_LIMIT}
use Rattle.hr_adapter.specs.Content.{Content}
use Rattle.hr_journal.proofs.ListLaws.{each_has, each_then}
use Rattle.hr_whole.specs.Whole.{AreAllOf, HasFewPairs, IsAmong, IsHere}

digest_same : (d e : Digest) → digest_eq d e ≡ true → d ≡ e
digest_same (Sha256 x) (Sha256 y) is = ap Sha256 ((bytes_decides x y).0 is)

digest_decides : (a b : Digest) → Decides (digest_eq a b) (a ≡ b)
digest_decides a b = (digest_same a b, λ e. subst (λ (z : Digest). digest_eq a z ≡ true) e (digests_equal.refl a))

-- digests that are distinct and each in a list are no more than that list
fits_in : (xs ys : List Digest) → IsDistinct digest_eq xs → AllByRecursion (Contains ys) xs → length xs ≤ length ys
fits_in xs ys once each =
    length-le_from_is_member digests_equal xs ys once
    (λ q is. (is_member-Decides digest_decides ys q).1
    (each_has (Contains ys) xs each q ((is_member-Decides digest_decides xs q).0 is)))

module _ (c : Content) (repo : RepoName) (root : Digest) (blobs manifests : List Digest) (all : AreAllOf c repo root blobs manifests) where
  listed_among : (d : Digest) (kid : Child) → Contains manifests d → ListsChild (IsHere c repo) d kid
      → IsAmong blobs manifests kid.kind kid.digest
  listed_among d kid within listed =
      each_has (λ (x : Child). IsAmong blobs manifests x.kind x.digest) listed.manifest.children
      (all.each d listed.manifest within listed.read) kid listed.within

  reached_among : (l : ℕ) (k : ChildKind) (d : Digest) → Reached (IsHere c repo) l root k d → IsAmong blobs manifests k d
  reached_among zero k d at =
      subst (λ (j : ChildKind). IsAmong blobs manifests j d) (sym at.0)
      (subst (λ (x : Digest). Contains manifests x) (sym at.1) all.first)
  reached_among (suc l) k d at =
      let up = reached_among l kind.Manifest at.0 at.1 in
      let here = listed_among at.0 at.2.0 up at.2.1 in
      subst (λ (x : Digest). IsAmong blobs manifests k x) at.2.3
      (subst (λ (j : ChildKind). IsAmong blobs manifests j at.2.0.digest) at.2.2 here)

  pub few_pairs : length blobs + length manifests ≤ PAIR_LIMIT → HasFewPairs c repo root
  few_pairs few many =
      let bs = fits_in many.blobs blobs many.once_blobs
      (each_then {P = IsReachable (IsHere c repo) root kind.Blob} {Q = Contains blobs}
      (λ d at. reached_among at.0 kind.Blob d at.1) many.blobs many.each_blob) in
      let ms = fits_in many.manifests manifests many.once_manifests
      (each_then {P = IsReachable (IsHere c repo) root kind.Manifest} {Q = Contains manifests}
      (λ d at. reached_among at.0 kind.Manifest d at.1) many.manifests many.each_manifest) in
      omega (arith, few, bs, ms, many.many)
