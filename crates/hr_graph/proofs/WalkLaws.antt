-- Laws of walks over their views, for lemmas of the crates above; most are contracts in
-- src/laws.rt too.
use Rattle.std.proofs.Common.{◌≡◌, ℕ, ◌+◌, ◌<◌, ◌⊎◌, false, List, [], ◌∷◌, length, sym, ◌∙◌, ap, subst}
use Rattle.std.specs.Prelude.{◌≢◌, Some, Ok}
use Rattle.std.specs.List.{AllByRecursion}
use Rattle.hr_digest.specs.Digest.{digest_of}
use Rattle.hr_digest.specs.declared.digest.Digest.{Digest}
use Rattle.hr_manifest.specs.Manifest.{Parts}
use Rattle.hr_manifest.specs.declared.child.Child.{Child}
use Rattle.hr_graph.specs.declared.need.Given.{Given}
use Rattle.hr_graph.specs.declared.need.Given.TheVariants as given
use Rattle.hr_graph.specs.declared.need.Need.{Need}
use Rattle.hr_graph.specs.declared.need.Need.TheVariants as need
use Rattle.hr_graph.specs.declared.opened.Finished.{Finished}
use Rattle.hr_graph.specs.declared.opened.Opened.{Opened}
use Rattle.hr_graph.specs.Answered.{IsAnswered}
use Rattle.hr_graph.specs.Sound.{Asks, AsksManifest, ComesLast, HasPassed, IsAttained, IsChain, IsPassed, IsSound}
use Rattle.hr_graph.specs.Step.{begun, height_of, outcome}
use Rattle.hr_graph.specs.Walk.{Answers, View, is_open, known, left_of, newest_manifest}
use Rattle.hr_graph.proofs.AnsweredLemmas as lemma
use Rattle.hr_graph.proofs.GiveLemmas as give
use Rattle.hr_graph.proofs.KnownLemmas as entries
use Rattle.hr_graph.proofs.LastLemmas as last
use Rattle.hr_graph.proofs.SoundLemmas as steady

-- ---- where a walk begins

-- A walk begins sound.
pub begun_sound : (root : Digest) (manifest : Parts) (view : View) → digest_of manifest.bytes ≡ root
    → begun root manifest ≡ Ok view → IsSound view
begun_sound = give.begun_sound

-- A walk begins with its root.
pub begun_root : (root : Digest) (manifest : Parts) (view : View) → begun root manifest ≡ Ok view
    → view.root ≡ root
begun_root = lemma.begun_root

-- A walk that begins isn't done.
pub begun_undone : (root : Digest) (manifest : Parts) (view : View) → begun root manifest ≡ Ok view
    → IsSound view → view.need ≢ need.Done
begun_undone = lemma.begun_undone

-- ---- each answer

-- Each answer that is taken keeps a walk sound, and leaves fewer.
pub step_falls : (old new : View) (answer : Given) → IsSound old → Answers old.need answer
    → outcome old answer ≡ Ok new → IsSound new × (left_of new < left_of old)
step_falls = give.step_falls

-- Each answer that is taken changes a walk in one of four ways, by the need.
pub answered : (old new : View) (answer : Given) → IsSound old → Answers old.need answer
    → outcome old answer ≡ Ok new → IsAnswered old old.need answer new
answered = lemma.answered

-- The root's digest never changes.
pub root_stays : (old new : View) (answer : Given) → IsSound old → Answers old.need answer
    → outcome old answer ≡ Ok new → new.root ≡ old.root
root_stays = lemma.root_stays

-- A walk is done only once its root was put.
pub done_last : (old new : View) (answer : Given) → IsSound old → Answers old.need answer
    → outcome old answer ≡ Ok new → new.need ≡ need.Done
    → (old.need ≡ need.PutManifest old.root) × (answer ≡ given.Put)
done_last = lemma.done_last

-- ---- what is asked for

-- A manifest that is asked for isn't open.
pub asked_closed : (view : View) (digest : Digest) → view.need ≡ need.Manifest digest → IsSound view
    → is_open digest view.opened ≡ false
asked_closed view digest asked sound =
    by view.opened (subst (λ (n : Need). Asks view.blobs view.manifests n view.opened) asked sound.asks)
  where
    by : (opened : List Opened) → AsksManifest view.blobs view.manifests digest opened
        → is_open digest opened ≡ false
    by [] asks = absurd asks
    by (o ∷ below) asks = asks.2

-- ---- what is put

-- A manifest is put after all that it lists, and the root last.
pub comes_last : (view : View) (digest : Digest) → IsSound view → view.need ≡ need.PutManifest digest
    → ComesLast view digest
comes_last = last.comes_last

-- What is to be put is the newest open manifest.
pub putting_is : (view : View) (digest : Digest) (manifest : Parts)
    → (asked : view.need ≡ need.PutManifest digest) → (sound : IsSound view)
    → Some manifest ≡ newest_manifest view.need view.opened
    → (comes_last view digest sound asked).newest.manifest ≡ manifest
putting_is view digest manifest asked sound is =
    let ends = comes_last view digest sound asked in
    let found : Some manifest ≡ newest_manifest (need.PutManifest digest) (ends.newest ∷ ends.below) =
    is ∙ ap (λ n. newest_manifest n view.opened) asked
    ∙ ap (newest_manifest (need.PutManifest digest)) ends.opened in cc

-- The bytes of what is to be put have its digest.
pub putting_own : (view : View) (digest : Digest) (manifest : Parts) → view.need ≡ need.PutManifest digest
    → IsSound view → Some manifest ≡ newest_manifest view.need view.opened
    → digest_of manifest.bytes ≡ digest
putting_own view digest manifest asked sound is =
    let ends = comes_last view digest sound asked in
    let chain = subst (λ (os : List Opened). IsChain view.root os) ends.opened sound.steady.chain in
    ap (λ (x : Parts). digest_of x.bytes) (sym (putting_is view digest manifest asked sound is))
    ∙ chain.0.digest ∙ ends.named

-- Every child of an open manifest without a next child is finished.
pub all_passed : (blobs : List (Digest × ℕ)) (manifests : List (Digest × Finished)) (o : Opened)
    → HasPassed blobs manifests o → o.next ≡ length o.manifest.children
    → AllByRecursion (IsPassed blobs manifests (o.level + 1)) o.manifest.children
all_passed = steady.all_passed

-- A height is 0, or one more than that of some child that was put.
pub height_attained : (manifests : List (Digest × Finished)) (children : List Child)
    → (height_of manifests children ≡ 0) ⊎ IsAttained manifests children (height_of manifests children)
height_attained = lemma.attained

-- What holds of each entry holds of what is known under a digest.
pub known_all : {X : Type 0} (P : Digest × X → Type 0) (digest : Digest) (entries : List (Digest × X)) (x : X)
    → AllByRecursion P entries → known digest entries ≡ Some x → P (digest, x)
known_all = entries.known_all
