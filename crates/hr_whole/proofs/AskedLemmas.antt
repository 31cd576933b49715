-- What the walk of a revision asks for is reached, and what it puts is no longer than a manifest may be.
use Rattle.std.proofs.Common.{◌≡◌, refl, sym, ap, subst, ◌∙◌, ℕ, zero, suc, ◌≤◌, List, [], ◌∷◌, length, arith}
use Rattle.std.specs.Prelude.{Some}
use Rattle.std.specs.List.{AllByRecursion, Contains, slice_get}
use Rattle.hr_base.specs.declared.limit.TheConstants.{MANIFEST_LIMIT}
use Rattle.hr_digest.specs.declared.digest.Digest.{Digest}
use Rattle.hr_event.specs.declared.entry.Entry.{Entry}
use Rattle.hr_manifest.specs.Manifest.{Parts}
use Rattle.hr_manifest.specs.declared.child.ChildKind.{ChildKind}
use Rattle.hr_manifest.specs.declared.child.ChildKind.TheVariants as kind
use Rattle.hr_manifest.proofs.ReadingLaws.{reads_short}
use Rattle.hr_graph.specs.Reached.{IsOpenedFrom}
use Rattle.hr_graph.specs.Sound.{Asks, AsksBlob, AsksManifest, Lists}
use Rattle.hr_graph.specs.Walk.{newest_manifest}
use Rattle.hr_graph.specs.declared.need.Need.{Need}
use Rattle.hr_graph.specs.declared.need.Need.TheVariants as need
use Rattle.hr_graph.specs.declared.opened.Opened.{Opened}
use Rattle.hr_line.specs.Evidence.{MeasuredFor, ReachedBy, ReadFor}
use Rattle.hr_line.specs.Kept.{WorkSeen}
use Rattle.hr_line.specs.declared.held.Admitted.{Admitted}
use Rattle.hr_line.specs.declared.held.Work.{Work}

-- what stands at a place of a list is contained in it
pub get_contains : {X : Type 0} (xs : List X) (k : ℕ) (x : X) → slice_get xs k ≡ Some x → Contains xs x
get_contains [] k x is = cc
get_contains (y ∷ ys) zero x is = let e : y ≡ x = cc in (zero, omega arith, e)
get_contains (y ∷ ys) (suc k) x is = let r = get_contains ys k x is in (suc r.0, omega (arith, r.1), r.2)

module _ (a : Admitted) (log : List Entry) (w : Work) (seen : WorkSeen a log w) where
  newest_from : (o : Opened) (below : List Opened) → w.walk.opened ≡ o ∷ below
      → IsOpenedFrom (ReadFor a log) (MeasuredFor a log) w.walk.root o
  newest_from o below is =
      (subst (λ (os : List Opened). AllByRecursion (IsOpenedFrom (ReadFor a log) (MeasuredFor a log) w.walk.root) os)
      is seen.read.opened).0

  listed_reached : (k : ChildKind) (d : Digest) (o : Opened) (below : List Opened) → w.walk.opened ≡ o ∷ below → Lists o k d
      → ReachedBy a log k d
  listed_reached k d o below is lists =
      let from = newest_from o below is in
      record {
        root = w.walk.root;
        is_root = seen.root;
        there = (
          suc o.level,
          (
            o.digest,
            from.there,
            (
              lists.child,
              record {
                manifest = o.manifest;
                read = from.read;
                within = get_contains o.manifest.children o.next lists.child lists.listed;
              },
              lists.kind,
              lists.digest_is,
            ),
          ),
        );
      }

  asks_for : (x : Need) → w.walk.need ≡ x → Asks w.walk.blobs w.walk.manifests x w.walk.opened
  asks_for x is = subst (λ (n : Need). Asks w.walk.blobs w.walk.manifests n w.walk.opened) is seen.sound.asks

  pub manifest_reached : (d : Digest) → w.walk.need ≡ need.Manifest d → ReachedBy a log kind.Manifest d
  manifest_reached d is = at w.walk.opened refl (asks_for (need.Manifest d) is)
    where
      at : (opened : List Opened) → w.walk.opened ≡ opened → AsksManifest w.walk.blobs w.walk.manifests d opened
          → ReachedBy a log kind.Manifest d
      at [] e asks = absurd asks
      at (o ∷ below) e asks = listed_reached kind.Manifest d o below e asks.0

  pub blob_reached : (d : Digest) → w.walk.need ≡ need.CopyBlob d → ReachedBy a log kind.Blob d
  blob_reached d is = at w.walk.opened refl (asks_for (need.CopyBlob d) is)
    where
      at : (opened : List Opened) → w.walk.opened ≡ opened → AsksBlob w.walk.blobs w.walk.manifests d opened
          → ReachedBy a log kind.Blob d
      at [] e asks = absurd asks
      at (o ∷ below) e asks = listed_reached kind.Blob d o below e asks.0

  pub put_short : (d : Digest) (parts : Parts) → w.walk.need ≡ need.PutManifest d
      → newest_manifest w.walk.need w.walk.opened ≡ Some parts → length parts.bytes ≤ MANIFEST_LIMIT
  put_short d parts is newest =
      at w.walk.opened refl (ap (λ (n : Need). newest_manifest n w.walk.opened) (sym is) ∙ newest)
    where
      at : (opened : List Opened) → w.walk.opened ≡ opened
          → newest_manifest (need.PutManifest d) w.walk.opened ≡ Some parts → length parts.bytes ≤ MANIFEST_LIMIT
      at [] e n =
          let none : newest_manifest (need.PutManifest d) [] ≡ Some parts =
          ap (newest_manifest (need.PutManifest d)) (sym e) ∙ n in cc
      at (o ∷ below) e n =
          let found : Some o.manifest ≡ Some parts = ap (newest_manifest (need.PutManifest d)) (sym e) ∙ n in
          let from = newest_from o below e in
          let same : o.manifest ≡ parts = cc in
          subst (λ (m : Parts). length m.bytes ≤ MANIFEST_LIMIT) same
          (reads_short o.manifest.media o.manifest.bytes o.manifest.children from.read.reads)
