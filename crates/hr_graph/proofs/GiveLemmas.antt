-- Each step keeps a walk sound, and leaves fewer steps.
use Rattle.std.proofs.Common.{◌≡◌, ℕ, ◌+◌, ◌*◌, ◌<◌, ◌≤◌, Bool, true, false, cond, List, [], ◌∷◌, length, refl, sym, ◌∙◌, ap, subst, arith, length-append}
use Rattle.std.proofs.lemmas.Bool.{eqb-true}
use Rattle.std.specs.Prelude.{Some, None, Result, Ok, Err, ◌==◌}
use Rattle.hr_digest.specs.declared.digest.Digest.{Digest}
use Rattle.hr_digest.specs.Digest.{digest_of}
use Rattle.hr_manifest.specs.Manifest.{Parts}
use Rattle.hr_graph.specs.declared.need.Given.{Given}
use Rattle.hr_graph.specs.declared.need.Given.TheVariants as given
use Rattle.hr_graph.specs.declared.need.Need.{Need}
use Rattle.hr_graph.specs.declared.need.Need.TheVariants as need
use Rattle.hr_graph.specs.declared.need.WalkRefused.{WalkRefused}
use Rattle.hr_graph.specs.declared.need.WalkRefused.TheVariants.{SizeDiffers}
use Rattle.hr_graph.specs.declared.meeting.Next.{Next}
use Rattle.hr_graph.specs.declared.opened.Opened.{Opened}
use Rattle.hr_graph.specs.declared.opened.Finished.{Finished}
use Rattle.hr_graph.specs.declared.opened.TheConstants.{PAIR_LIMIT}
use Rattle.hr_graph.specs.Walk.{View, Answers, copying, steps_of, left_of, met_count, size_said}
use Rattle.hr_graph.specs.Meeting.{next_in, moved_to, settled_by, settled}
use Rattle.hr_graph.specs.Step.{with_root, begun, with_opened, with_blob, with_put, after_manifest, after_put, after_found, outcome_at, outcome, finished_of}
use Rattle.hr_graph.specs.Sound.{Asks, AsksBlob, IsSteady, IsSound}
use Rattle.hr_graph.proofs.SoundLemmas.{parts, settle_sound, root_steady, blob_steady, manifest_steady, put_steady}

length-moved : (at : ℕ) (opened : List Opened) → length (moved_to at opened) ≡ length opened
length-moved at [] = refl
length-moved at (o ∷ below) = refl

-- not more steps are taken than may be
few_steps : (blobs : List (Digest × ℕ)) (manifests : List (Digest × Finished)) (n : Need) (opened : List Opened)
    → Asks blobs manifests n opened → met_count opened blobs manifests ≤ PAIR_LIMIT
    → 2 * (length blobs + length manifests) + length opened + copying n ≤ 2 * PAIR_LIMIT
few_steps blobs manifests (need.CopyBlob d) [] a few = absurd a
few_steps blobs manifests (need.CopyBlob d) (o ∷ below) a few = omega (arith, a.2)
few_steps blobs manifests (need.Manifest d) opened a few = omega (arith, few)
few_steps blobs manifests (need.HasBlob d) opened a few = omega (arith, few)
few_steps blobs manifests (need.PutManifest d) opened a few = omega (arith, few)
few_steps blobs manifests need.Done opened a few = omega (arith, few)

pub sound_steps : (v : View) → IsSound v → steps_of v ≤ 2 * PAIR_LIMIT
sound_steps v s = few_steps v.blobs v.manifests v.need v.opened s.asks s.steady.few

abbrev pub Falls : View → View → Type 0
Falls old new = IsSound new × (left_of new < left_of old)

fewer : (old new : View) → IsSound new → steps_of old < steps_of new → Falls old new
fewer old new s more = (s, omega (arith, more, sound_steps new s))

-- from what was given to the next need
next_falls : (old w new : View) (r : Result Next WalkRefused) → IsSteady w
    → steps_of old < 2 * (length w.blobs + length w.manifests) + length w.opened
    → next_in w.opened w.blobs w.manifests ≡ r → settled_by w r ≡ Ok new → Falls old new
next_falls old w new (Ok n) s more is e =
    let same : record w { opened = moved_to n.at w.opened; need = n.need } ≡ new = cc in
    let P : View → Type 0 = Falls old in
    subst P same
    (fewer old (record w { opened = moved_to n.at w.opened; need = n.need }) (settle_sound w n s is)
    (omega (arith, more, length-moved n.at w.opened)))
next_falls old w new (Err why) s more is e = absurd (let no : ⊥ = cc in no)

settled_falls : (old w new : View) → IsSteady w
    → steps_of old < 2 * (length w.blobs + length w.manifests) + length w.opened
    → settled w ≡ Ok new → Falls old new
settled_falls old w new s more e =
    next_falls old w new (next_in w.opened w.blobs w.manifests) s more refl e

-- a blob is added
blob_falls : (v new : View) (d : Digest) (len : ℕ) → IsSound v → AsksBlob v.blobs v.manifests d v.opened
    → copying v.need ≤ 1 → settled (with_blob v d len) ≡ Ok new → Falls v new
blob_falls v new d len s a c e =
    settled_falls v (with_blob v d len) new (blob_steady v d len s.steady a)
    (omega (arith, c, length-append v.blobs ((d, len) ∷ []))) e

-- a manifest is opened
open_by : (b : Bool) (v w new : View) (why : WalkRefused) (z : Result View WalkRefused)
    → z ≡ cond b (settled w) (Err why) → z ≡ Ok new → (b ≡ true) × (settled w ≡ Ok new)
open_by true v w new why z is e = (refl, sym is ∙ e)
open_by false v w new why z is e = absurd (let no : ⊥ = cc in no)

open_falls : (root : Digest) (opened : List Opened) (blobs : List (Digest × ℕ)) (manifests : List (Digest × Finished))
    (d : Digest) (m : Parts) (new : View) → IsSound (parts root opened blobs manifests (need.Manifest d))
    → digest_of m.bytes ≡ d
    → after_manifest (parts root opened blobs manifests (need.Manifest d)) d m opened ≡ Ok new
    → Falls (parts root opened blobs manifests (need.Manifest d)) new
open_falls root [] blobs manifests d m new s is e = absurd s.asks
open_falls root (o ∷ below) blobs manifests d m new s is e =
    let v : View = parts root (o ∷ below) blobs manifests (need.Manifest d) in
    let b = open_by (size_said o == length m.bytes) v (with_opened v d m o) new
    (SizeDiffers d (size_said o) (length m.bytes)) (after_manifest v d m (o ∷ below)) refl e in
    settled_falls v (with_opened v d m o) new
    (manifest_steady root o below blobs manifests (need.Manifest d) d m s.steady s.asks is
    (eqb-true (size_said o) (length m.bytes) b.0))
    (omega arith) b.1

-- the newest open manifest is put
put_falls : (root : Digest) (opened : List Opened) (blobs : List (Digest × ℕ)) (manifests : List (Digest × Finished))
    (d : Digest) (new : View) → IsSound (parts root opened blobs manifests (need.PutManifest d))
    → after_put (parts root opened blobs manifests (need.PutManifest d)) opened ≡ Ok new
    → Falls (parts root opened blobs manifests (need.PutManifest d)) new
put_falls root [] blobs manifests d new s e = absurd s.asks
put_falls root (o ∷ below) blobs manifests d new s e =
    let v : View = parts root (o ∷ below) blobs manifests (need.PutManifest d) in
    settled_falls v (with_put v o below) new
    (put_steady root o below blobs manifests (need.PutManifest d) s.steady s.asks.1)
    (omega (arith, length-append manifests ((o.digest, finished_of manifests o) ∷ []))) e

-- a blob is to be copied
copy_falls : (v new : View) (d : Digest) (z : Result View WalkRefused) → v.need ≡ need.HasBlob d → IsSound v
    → z ≡ Ok (record v { need = need.CopyBlob d }) → z ≡ Ok new → Falls v new
copy_falls v new d z is s f e =
    let same : record v { need = need.CopyBlob d } ≡ new = cc in
    let P : View → Type 0 = Falls v in
    let Q : Need → Type 0 = λ n. Asks v.blobs v.manifests n v.opened in
    let none : copying v.need ≡ 0 = ap copying is in
    subst P same
    (fewer v (record v { need = need.CopyBlob d })
    (record {
      steady = record {
        chain = s.steady.chain;
        passed = s.steady.passed;
        once_open = s.steady.once_open;
        not_put = s.steady.not_put;
        once_put = s.steady.once_put;
        once_copied = s.steady.once_copied;
        low = s.steady.low;
        few = s.steady.few;
        root_put = s.steady.root_put;
      };
      asks = subst Q is s.asks;
    })
    (omega (arith, none)))

falls_at : (root : Digest) (opened : List Opened) (blobs : List (Digest × ℕ)) (manifests : List (Digest × Finished))
    (n : Need) (g : Given) (new : View) → IsSound (parts root opened blobs manifests n) → Answers n g
    → outcome_at (parts root opened blobs manifests n) n g ≡ Ok new
    → Falls (parts root opened blobs manifests n) new
falls_at root opened blobs manifests (need.Manifest d) (given.Manifest m) new s a e =
    open_falls root opened blobs manifests d m new s a e
falls_at root opened blobs manifests (need.HasBlob d) (given.Found (Some len)) new s a e =
    blob_falls (parts root opened blobs manifests (need.HasBlob d)) new d len s s.asks (omega arith) e
falls_at root opened blobs manifests (need.HasBlob d) (given.Found None) new s a e =
    copy_falls (parts root opened blobs manifests (need.HasBlob d)) new d (after_found (parts root opened blobs manifests (need.HasBlob d)) d None) refl s refl e
falls_at root opened blobs manifests (need.CopyBlob d) (given.Copied len) new s a e =
    blob_falls (parts root opened blobs manifests (need.CopyBlob d)) new d len s s.asks (omega arith) e
falls_at root opened blobs manifests (need.PutManifest d) given.Put new s a e =
    put_falls root opened blobs manifests d new s e
falls_at root opened blobs manifests _ _ new s a e = absurd a

-- every step that is taken keeps the walk sound, and leaves fewer
pub step_falls : (v new : View) (g : Given) → IsSound v → Answers v.need g → outcome v g ≡ Ok new → Falls v new
step_falls v new g s a e = falls_at v.root v.opened v.blobs v.manifests v.need g new s a e

pub opened_falls : (v w new : View) (g : Given) (d : Digest) (m : Parts) → w ≡ v → IsSound w
    → w.need ≡ need.Manifest d → g ≡ given.Manifest m → Answers v.need g
    → after_manifest v d m v.opened ≡ Ok new → left_of new < left_of v
opened_falls v w new g d m same s is by a e =
    let P : View → Type 0 = IsSound in
    let n : v.need ≡ need.Manifest d = ap (λ (x : View). x.need) (sym same) ∙ is in
    let f : outcome v g ≡ after_manifest v d m v.opened =
    ap (λ y. outcome_at v v.need y) by ∙ ap (λ y. outcome_at v y (given.Manifest m)) n in
    (step_falls v new g (subst P same s) a (f ∙ e)).1

pub closed_falls : (v w new : View) (g : Given) (d : Digest) → w ≡ v → IsSound w
    → w.need ≡ need.PutManifest d → g ≡ given.Put → Answers v.need g
    → after_put v v.opened ≡ Ok new → left_of new < left_of v
closed_falls v w new g d same s is by a e =
    let P : View → Type 0 = IsSound in
    let n : v.need ≡ need.PutManifest d = ap (λ (x : View). x.need) (sym same) ∙ is in
    let f : outcome v g ≡ after_put v v.opened =
    ap (λ y. outcome_at v v.need y) by ∙ ap (λ y. outcome_at v y given.Put) n in
    (step_falls v new g (subst P same s) a (f ∙ e)).1

-- a walk begins sound
begun_by : (w view : View) (r : Result Next WalkRefused) → IsSteady w → next_in w.opened w.blobs w.manifests ≡ r
    → settled_by w r ≡ Ok view → IsSound view
begun_by w view (Ok n) s is e =
    let same : record w { opened = moved_to n.at w.opened; need = n.need } ≡ view = cc in
    let P : View → Type 0 = IsSound in
    subst P same (settle_sound w n s is)
begun_by w view (Err why) s is e = absurd (let no : ⊥ = cc in no)

pub begun_sound : (root : Digest) (manifest : Parts) (view : View) → digest_of manifest.bytes ≡ root
    → begun root manifest ≡ Ok view → IsSound view
begun_sound root manifest view is e =
    let w : View = with_root root manifest in
    begun_by w view (next_in w.opened w.blobs w.manifests) (root_steady root manifest is) refl e
