-- What each answer that is taken changes in a walk.
use Rattle.std.proofs.Common.{◌≡◌, refl, sym, ap, subst, ◌∙◌, ℕ, ◌≤◌, ◌<◌, ◌⊎◌, inl, inr, Bool, true, false, cond, List, [], ◌∷◌, length, arith}
use Rattle.std.proofs.lemmas.Bool.{eqb-true, leb-true, leb-false}
use Rattle.std.specs.Prelude.{Option, Some, None, Result, Ok, Err, ◌==◌, ◌≢◌, max, nat_le}
use Rattle.hr_digest.specs.declared.digest.Digest.{Digest}
use Rattle.hr_manifest.specs.Manifest.{Parts}
use Rattle.hr_manifest.specs.declared.child.Child.{Child}
use Rattle.hr_manifest.specs.declared.child.ChildKind.{ChildKind}
use Rattle.hr_manifest.specs.declared.child.ChildKind.TheVariants as kind
use Rattle.hr_graph.specs.declared.meeting.Next.{Next}
use Rattle.hr_graph.specs.declared.need.Given.{Given}
use Rattle.hr_graph.specs.declared.need.Given.TheVariants as given
use Rattle.hr_graph.specs.declared.need.Need.{Need}
use Rattle.hr_graph.specs.declared.need.Need.TheVariants as need
use Rattle.hr_graph.specs.declared.need.WalkRefused.{WalkRefused}
use Rattle.hr_graph.specs.declared.need.WalkRefused.TheVariants.{SizeDiffers}
use Rattle.hr_graph.specs.declared.opened.Finished.{Finished}
use Rattle.hr_graph.specs.declared.opened.Opened.{Opened}
use Rattle.hr_graph.specs.Answered.{IsSettled, ChildWasOpened, BlobWasFinished, ManifestWasPut, IsAnswered}
use Rattle.hr_graph.specs.Meeting.{moved_to, next_in, settled, settled_by}
use Rattle.hr_graph.specs.Sound.{Asks, AsksBlob, AsksManifest, IsAttained, IsReady, IsSound}
use Rattle.hr_graph.specs.Step.{after_found, after_manifest, after_put, begun, height_by, height_of, outcome, outcome_at, with_blob, with_opened, with_put, with_root}
use Rattle.hr_graph.specs.Walk.{Answers, View, known, size_said}
use Rattle.hr_graph.proofs.ContainsLemmas.{contains_later}
use Rattle.hr_graph.proofs.GiveLemmas.{step_falls}
use Rattle.hr_graph.proofs.LastLemmas.{comes_last}

-- ---- at the next need

settled_from : (view new : View) (next : Result Next WalkRefused)
    → next_in view.opened view.blobs view.manifests ≡ next → settled_by view next ≡ Ok new
    → IsSettled view new
settled_from view new (Ok next) same is =
    record { at = next.at; asked = next.need; next = same; is = cc }
settled_from view new (Err why) same is = cc

pub is_settled : (view new : View) → settled view ≡ Ok new → IsSettled view new
is_settled view new is =
    settled_from view new (next_in view.opened view.blobs view.manifests) refl is

-- ---- by the need

chosen : (fits : Bool) (view new : View) (why : WalkRefused)
    → cond fits (settled view) (Err why) ≡ Ok new → (fits ≡ true) × (settled view ≡ Ok new)
chosen true view new why is = (refl, is)
chosen false view new why is = cc

opened_by : (old new : View) (d : Digest) (m : Parts) (opened : List Opened) → old.opened ≡ opened
    → AsksManifest old.blobs old.manifests d opened → after_manifest old d m opened ≡ Ok new
    → ChildWasOpened old d m new
opened_by old new d m [] same asks is = absurd asks
opened_by old new d m (o ∷ below) same asks is =
    let by = chosen (size_said o == length m.bytes) (with_opened old d m o) new
    (SizeDiffers d (size_said o) (length m.bytes)) is in record {
      parent = o;
      below = below;
      opened = same;
      size = eqb-true (size_said o) (length m.bytes) by.0;
      settled = is_settled (with_opened old d m o) new by.1;
    }

put_by : (old new : View) (d : Digest) (opened : List Opened) → old.opened ≡ opened → IsReady d opened
    → after_put old opened ≡ Ok new → ManifestWasPut old d new
put_by old new d [] same ready is = absurd ready
put_by old new d (o ∷ below) same ready is = record {
  newest = o;
  below = below;
  opened = same;
  named = ready.0;
  settled = is_settled (with_put old o below) new is;
}

same_ok : (result : Result View WalkRefused) (a b : View) → result ≡ Ok a → result ≡ Ok b → b ≡ a
same_ok result a b one other = cc

answered_at : (old new : View) (asked : Need) (g : Given)
    → Asks old.blobs old.manifests asked old.opened → Answers asked g → outcome_at old asked g ≡ Ok new
    → IsAnswered old asked g new
answered_at old new (need.Manifest d) (given.Manifest m) asks fits is =
    opened_by old new d m old.opened refl asks is
answered_at old new (need.HasBlob d) (given.Found (Some len)) asks fits is =
    record { settled = is_settled (with_blob old d len) new is }
answered_at old new (need.HasBlob d) (given.Found None) asks fits is =
    record { is = same_ok (after_found old d None) (record old { need = need.CopyBlob d }) new refl is }
answered_at old new (need.CopyBlob d) (given.Copied len) asks fits is =
    record { settled = is_settled (with_blob old d len) new is }
answered_at old new (need.PutManifest d) given.Put asks fits is =
    put_by old new d old.opened refl asks is
answered_at old new _ _ asks fits is = absurd fits

pub answered : (old new : View) (g : Given) → IsSound old → Answers old.need g → outcome old g ≡ Ok new
    → IsAnswered old old.need g new
answered old new g sound fits is = answered_at old new old.need g sound.asks fits is

-- ---- the root

pub settled_root : (view new : View) → IsSettled view new → new.root ≡ view.root
settled_root view new at = ap (λ (v : View). v.root) at.is

root_kept : (old new : View) (asked : Need) (g : Given) → IsAnswered old asked g new → new.root ≡ old.root
root_kept old new (need.Manifest d) (given.Manifest m) a =
    settled_root (with_opened old d m a.parent) new a.settled
root_kept old new (need.HasBlob d) (given.Found (Some len)) a = settled_root (with_blob old d len) new a.settled
root_kept old new (need.HasBlob d) (given.Found None) a = ap (λ (v : View). v.root) a.is
root_kept old new (need.CopyBlob d) (given.Copied len) a = settled_root (with_blob old d len) new a.settled
root_kept old new (need.PutManifest d) given.Put a =
    settled_root (with_put old a.newest a.below) new a.settled
root_kept old new _ _ a = absurd a

pub root_stays : (old new : View) (g : Given) → IsSound old → Answers old.need g → outcome old g ≡ Ok new
    → new.root ≡ old.root
root_stays old new g sound fits is = root_kept old new old.need g (answered old new g sound fits is)

pub begun_root : (root : Digest) (m : Parts) (new : View) → begun root m ≡ Ok new → new.root ≡ root
begun_root root m new is = settled_root (with_root root m) new (is_settled (with_root root m) new is)

-- ---- the end

pub done_closes : (view : View) → IsSound view → view.need ≡ need.Done → view.opened ≡ []
done_closes view sound done =
    subst (λ (n : Need). Asks view.blobs view.manifests n view.opened) done sound.asks

moved_none : (at : ℕ) (opened : List Opened) → moved_to at opened ≡ [] → opened ≡ []
moved_none at [] is = refl
moved_none at (o ∷ below) is = cc

pub settled_closes : (view new : View) → IsSettled view new → new.opened ≡ [] → view.opened ≡ []
settled_closes view new at none =
    moved_none at.at view.opened (sym (ap (λ (v : View). v.opened) at.is) ∙ none)

blob_open : (blobs : List (Digest × ℕ)) (manifests : List (Digest × Finished)) (d : Digest) (opened : List Opened)
    → AsksBlob blobs manifests d opened → opened ≡ [] → ⊥
blob_open blobs manifests d [] asks none = asks
blob_open blobs manifests d (o ∷ below) asks none = cc

blob_goes_on : (old new : View) (d : Digest) (len : ℕ) → AsksBlob old.blobs old.manifests d old.opened
    → BlobWasFinished old d len new → new.opened ≡ [] → ⊥
blob_goes_on old new d len asks a none =
    blob_open old.blobs old.manifests d old.opened asks (settled_closes (with_blob old d len) new a.settled none)

-- the last answer is the root's put
abbrev pub IsLastAnswer : View → Need → Given → Type 0
IsLastAnswer old asked g = (asked ≡ need.PutManifest old.root) × (g ≡ given.Put)

last_at : (old new : View) (asked : Need) (g : Given) → IsSound old → old.need ≡ asked
    → Asks old.blobs old.manifests asked old.opened → IsAnswered old asked g new
    → new.opened ≡ [] → new.need ≡ need.Done → IsLastAnswer old asked g
last_at old new (need.Manifest d) (given.Manifest m) sound same asks a none done =
    let never : with_opened_is old d m a.parent ≡ [] =
    settled_closes (with_opened old d m a.parent) new a.settled none in absurd (let no : ⊥ = cc in no)
  where
    with_opened_is : View → Digest → Parts → Opened → List Opened
    with_opened_is view d m o = (with_opened view d m o).opened
last_at old new (need.HasBlob d) (given.Found (Some len)) sound same asks a none done =
    absurd (blob_goes_on old new d len asks a none)
last_at old new (need.HasBlob d) (given.Found None) sound same asks a none done =
    let other : need.CopyBlob d ≡ need.Done = sym (ap (λ (v : View). v.need) a.is) ∙ done in
    absurd (let no : ⊥ = cc in no)
last_at old new (need.CopyBlob d) (given.Copied len) sound same asks a none done =
    absurd (blob_goes_on old new d len asks a none)
last_at old new (need.PutManifest d) given.Put sound same asks a none done =
    let ends = comes_last old d sound same in
    let closed : a.below ≡ [] = settled_closes (with_put old a.newest a.below) new a.settled none in
    let both : ends.newest ∷ ends.below ≡ a.newest ∷ a.below = sym ends.opened ∙ a.opened in
    let tails : ends.below ≡ a.below = cc in
    (ap (λ (x : Digest). need.PutManifest x) (ends.oldest.0 (tails ∙ closed)), refl)
last_at old new _ _ sound same asks a none done = absurd a

-- a walk is done only by the put of its root
pub done_last : (old new : View) (g : Given) → IsSound old → Answers old.need g → outcome old g ≡ Ok new
    → new.need ≡ need.Done → IsLastAnswer old old.need g
done_last old new g sound fits is done =
    let after = (step_falls old new g sound fits is).0 in
    last_at old new old.need g sound refl sound.asks (answered old new g sound fits is)
    (done_closes new after done) done

pub begun_undone : (root : Digest) (m : Parts) (new : View) → begun root m ≡ Ok new → IsSound new
    → new.need ≢ need.Done
begun_undone root m new is sound done =
    let view = with_root root m in
    let none : view.opened ≡ [] =
    settled_closes view new (is_settled view new is) (done_closes new sound done) in cc

-- ---- a height is attained

pub max_by : (b : Bool) (m n : ℕ) → nat_le m n ≡ b → (max m n ≡ m) ⊎ (max m n ≡ n)
max_by true m n e = let le : m ≤ n = leb-true m n e in inr (omega (arith, le))
max_by false m n e = let lt : n < m = leb-false m n e in inl (omega (arith, lt))

kid_attains : (manifests : List (Digest × Finished)) (k : ChildKind) (kid : Child) (kids : List Child)
    → kid.kind ≡ k → (f : Option Finished) → known kid.digest manifests ≡ f
    → (height_by k f ≡ 0) ⊎ IsAttained manifests (kid ∷ kids) (height_by k f)
kid_attains manifests kind.Manifest kid kids is (Some done) e = inr (record {
  child = kid;
  within = (0, omega arith, refl);
  kind = is;
  done = done;
  there = e;
  above = refl;
})
kid_attains manifests kind.Manifest kid kids is None e = inl refl
kid_attains manifests kind.Blob kid kids is f e = inl refl
kid_attains manifests kind.Foreign kid kids is f e = inl refl

later_attains : (manifests : List (Digest × Finished)) (kid : Child) (kids : List Child) (height : ℕ)
    → IsAttained manifests kids height → IsAttained manifests (kid ∷ kids) height
later_attains manifests kid kids height a = record {
  child = a.child;
  within = contains_later kid kids a.child a.within;
  kind = a.kind;
  done = a.done;
  there = a.there;
  above = a.above;
}

abbrev Attains : List (Digest × Finished) → List Child → ℕ → Type 0
Attains manifests kids height = (height ≡ 0) ⊎ IsAttained manifests kids height

pub attained : (manifests : List (Digest × Finished)) (kids : List Child)
    → (height_of manifests kids ≡ 0) ⊎ IsAttained manifests kids (height_of manifests kids)
attained manifests [] = inl refl
attained manifests (kid ∷ kids) =
    let first = height_by kid.kind (known kid.digest manifests) in
    let later = height_of manifests kids in
    elim (max_by (nat_le first later) first later refl) [
      | inl e ↦ subst (λ (n : ℕ). Attains manifests (kid ∷ kids) n) (sym e)
          (kid_attains manifests kid.kind kid kids refl (known kid.digest manifests) refl)
      | inr e ↦ subst (λ (n : ℕ). Attains manifests (kid ∷ kids) n) (sym e) (elim (attained manifests kids) [
        | inl none ↦ inl none
        | inr some ↦ inr (later_attains manifests kid kids later some)
      ])
    ]
