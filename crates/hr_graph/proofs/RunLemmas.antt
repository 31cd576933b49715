-- What holds of a run of a walk.
use Rattle.std.proofs.Common.{◌≡◌, ◌⊎◌, inl, inr, ℕ, zero, suc, Bool, true, false, cond, List, [], ◌∷◌, ◌++◌, refl, sym, ◌∙◌, ap, subst, arith}
use Rattle.std.specs.Prelude.{Option, Some, None, Ok, Err, Contains, map}
use Rattle.std.specs.List.{AllByRecursion, IsDistinct}
use Rattle.std.specs.Map.{keys_of}
use Rattle.hr_digest.specs.declared.digest.Digest.{Digest}
use Rattle.hr_digest.specs.Digest.{digest_of}
use Rattle.hr_digest.specs.Order.{digest_eq, digests_equal}
use Rattle.hr_manifest.specs.Manifest.{Parts}
use Rattle.hr_manifest.specs.declared.child.Child.{Child}
use Rattle.hr_manifest.specs.declared.child.ChildKind.{ChildKind}
use Rattle.hr_manifest.specs.declared.child.ChildKind.TheVariants as kind
use Rattle.hr_graph.specs.declared.need.Given.{Given}
use Rattle.hr_graph.specs.declared.need.Given.TheVariants as given
use Rattle.hr_graph.specs.declared.need.Need.{Need}
use Rattle.hr_graph.specs.declared.need.Need.TheVariants as need
use Rattle.hr_graph.specs.declared.need.WalkRefused.{WalkRefused}
use Rattle.hr_graph.specs.declared.opened.Opened.{Opened}
use Rattle.hr_graph.specs.Answered.{IsSettled, IsAnswered}
use Rattle.hr_graph.specs.Meeting.{moved_to}
use Rattle.hr_graph.specs.Reached.{AreFromReadings, IsFromReading, IsOpenedFrom, IsRefusal}
use Rattle.hr_graph.specs.Run.{Exchange, exchanged, blob_done, manifest_done, blobs_done, manifests_done, WasFinished, WasTold, HasRun, WasGiven, ComesAfterAll, AreInOrder, IsOrderly, IsWholeRun}
use Rattle.hr_graph.specs.Sound.{IsBelow, IsBelowAs, IsSound}
use Rattle.hr_graph.specs.Step.{begun, finished_of, height_of, outcome, with_blob, with_opened, with_put, with_root}
use Rattle.hr_graph.specs.Walk.{Answers, View, known}
use Rattle.hr_graph.proofs.AnsweredLemmas.{answered, begun_root, begun_undone, done_closes, done_last, is_settled, root_stays}
use Rattle.hr_graph.proofs.ContainsLemmas.{contains_later, each_then}
use Rattle.hr_graph.proofs.GiveLemmas.{begun_sound, step_falls}
use Rattle.hr_graph.proofs.KnownLemmas.{absent_at, digest_same, distinct_head}
use Rattle.hr_graph.proofs.LastLemmas.{comes_last}
use Rattle.hr_graph.proofs.ReachedLaws.{begins_or_shows, goes_or_shows, read_more}

-- ---- lists

keys_snoc : {X : Type 0} (es : List (Digest × X)) (d : Digest) (x : X)
    → keys_of (es ++ (d, x) ∷ []) ≡ keys_of es ++ d ∷ []
keys_snoc [] d x = refl
keys_snoc (e ∷ es) d x = ap (λ ds. e.0 ∷ ds) (keys_snoc es d x)

contains_snoc : {X : Type 0} (xs : List X) (x : X) → Contains (xs ++ x ∷ []) x
contains_snoc [] x = (zero, omega arith, refl)
contains_snoc (y ∷ ys) x = contains_later y (ys ++ x ∷ []) x (contains_snoc ys x)

contains_more : {X : Type 0} (xs ys : List X) (x : X) → Contains xs x → Contains (xs ++ ys) x
contains_more [] ys x (k, within, is) = absurd (omega (arith, within))
contains_more (y ∷ xs) ys x (zero, within, is) = (zero, omega arith, is)
contains_more (y ∷ xs) ys x (suc k, within, is) =
    contains_later y (xs ++ ys) x (contains_more xs ys x (k, omega (arith, within), is))

first_or_later : {X : Type 0} (y : X) (ys : List X) (x : X) → Contains (y ∷ ys) x → (y ≡ x) ⊎ Contains ys x
first_or_later y ys x (zero, within, is) = inl is
first_or_later y ys x (suc k, within, is) = inr (k, omega (arith, within), is)

known_by : {X : Type 0} (d k : Digest) (es : List (Digest × X)) (a x : X) (b : Bool) → digest_eq d k ≡ b
    → cond b (Some a) (known d es) ≡ Some x → (known d es ≡ Some x → Contains (keys_of es) d)
    → Contains (k ∷ keys_of es) d
known_by d k es a x true same is later = (zero, omega arith, sym (digest_same d k same))
known_by d k es a x false other is later = contains_later k (keys_of es) d (later is)

known_key : {X : Type 0} (d : Digest) (es : List (Digest × X)) (x : X) → known d es ≡ Some x
    → Contains (keys_of es) d
known_key d [] x is = absurd (let no : ⊥ = cc in no)
known_key d (e ∷ es) x is = known_by d e.0 es e.1 x (digest_eq d e.0) refl is (known_key d es x)

absent_first : {X : Type 0} (d k : Digest) (a : X) (o : Option X) → k ≡ d
    → cond (digest_eq d k) (Some a) o ≡ None → ⊥
absent_first d k a o same none =
    let b : digest_eq d k ≡ true = ap (λ (y : Digest). digest_eq d y) same ∙ digests_equal.refl d in
    let some : Some a ≡ None = sym (ap (λ c. cond c (Some a) o) b) ∙ none in
    let no : ⊥ = cc in no

key_known : {X : Type 0} (d : Digest) (es : List (Digest × X)) → Contains (keys_of es) d
    → known d es ≡ None → ⊥
key_known d [] (k, within, is) none = omega (arith, within)
key_known d (e ∷ es) at none = elim (first_or_later e.0 (keys_of es) d at) [
  | inl same ↦ absent_first d e.0 e.1 (known d es) same none
  | inr later ↦ key_known d es later (absent_at (digest_eq d e.0) e.1 (known d es) none).1
]

append_nil : {X : Type 0} (xs : List X) → xs ++ [] ≡ xs
append_nil [] = refl
append_nil (x ∷ xs) = ap (λ l. x ∷ l) (append_nil xs)

-- ---- the manifests that are open, with their digests

abbrev pairs_of : List Opened → List (Digest × Parts)
pairs_of opened = map (λ o. (o.digest, o.manifest)) opened

pairs_moved : (at : ℕ) (opened : List Opened) → pairs_of (moved_to at opened) ≡ pairs_of opened
pairs_moved at [] = refl
pairs_moved at (o ∷ below) = refl

settled_pairs : (view new : View) → IsSettled view new → pairs_of new.opened ≡ pairs_of view.opened
settled_pairs view new at = ap (λ (v : View). pairs_of v.opened) at.is ∙ pairs_moved at.at view.opened

-- a manifest that is open under another's digest is that one
below_apart : (d : Digest) (opened : List Opened) (m : Parts)
    → AllByRecursion (λ y. digest_eq d y ≡ false) (map (λ o. o.digest) opened)
    → Contains (pairs_of opened) (d, m) → ⊥
below_apart d [] m apart (k, within, is) = omega (arith, within)
below_apart d (o ∷ os) m apart at = elim (first_or_later (o.digest, o.manifest) (pairs_of os) (d, m) at) [
  | inl same ↦
      let e : o.digest ≡ d = ap (λ (p : Digest × Parts). p.0) same in
      let b : digest_eq d o.digest ≡ true = ap (λ (y : Digest). digest_eq d y) e ∙ digests_equal.refl d in
      let no : ⊥ = cc apart.0 in no
  | inr later ↦ below_apart d os m apart.1 later
]

-- ---- what was given and told

told_more : (e : Exchange) (before : List Exchange) (d : Digest) (len : ℕ) → WasTold before d len
    → WasTold (e ∷ before) d len
told_more e before d len (inl at) =
    inl (contains_later e before (exchanged (need.HasBlob d) (given.Found (Some len))) at)
told_more e before d len (inr at) =
    inr (contains_later e before (exchanged (need.CopyBlob d) (given.Copied len)) at)

done_more : (e : Exchange) (before : List Exchange) (k : ChildKind) (d : Digest) → WasFinished before k d
    → WasFinished (e ∷ before) k d
done_more e before kind.Manifest d at = contains_more (manifests_done before) (manifest_done e.asked e.answer) d at
done_more e before kind.Blob d at = contains_more (blobs_done before) (blob_done e.asked e.answer) d at
done_more e before kind.Foreign d at = tt

module _ (root : Digest) (manifest : Parts) where
  given_more : (e : Exchange) (before : List Exchange) (d : Digest) (m : Parts) → WasGiven root manifest before d m
      → WasGiven root manifest (e ∷ before) d m
  given_more e before d m (inl at) = inl at
  given_more e before d m (inr at) =
      inr (contains_later e before (exchanged (need.Manifest d) (given.Manifest m)) at)

  given_now : (e : Exchange) (before : List Exchange) (d : Digest) (m : Parts)
      → WasGiven root manifest (e ∷ before) d m
      → (e ≡ exchanged (need.Manifest d) (given.Manifest m)) ⊎ WasGiven root manifest before d m
  given_now e before d m (inl at) = inr (inl at)
  given_now e before d m (inr at) =
      elim (first_or_later e before (exchanged (need.Manifest d) (given.Manifest m)) at) [
        | inl now ↦ inl now
        | inr later ↦ inr (inr later)
      ]

  abbrev Readings : List Exchange → View → Type 0
  Readings run view = AreFromReadings (WasGiven root manifest run) (WasTold run) view

  abbrev IsReadingOf : List Exchange → Need → Given → Type 0
  IsReadingOf run asked answer = IsFromReading (WasGiven root manifest run) (WasTold run) asked answer

  pub from_run : (asked : Need) (answer : Given) (before : List Exchange) → Answers asked answer
      → IsReadingOf (exchanged asked answer ∷ before) asked answer
  from_run (need.Manifest d) (given.Manifest m) before fits = inr (zero, omega arith, refl)
  from_run (need.HasBlob d) (given.Found (Some len)) before fits = inl (zero, omega arith, refl)
  from_run (need.HasBlob d) (given.Found None) before fits = tt
  from_run (need.CopyBlob d) (given.Copied len) before fits = inr (zero, omega arith, refl)
  from_run (need.PutManifest d) given.Put before fits = tt
  from_run _ _ before fits = absurd fits

  pub more_readings : (e : Exchange) (before : List Exchange) (view : View) → Readings before view
      → Readings (e ∷ before) view
  more_readings e before view read =
      read_more (WasGiven root manifest before) (WasGiven root manifest (e ∷ before)) (WasTold before) (WasTold (e ∷ before))
      (given_more e before) (told_more e before) view read

  -- ---- what a run leaves

  pub record Leaves (run : List Exchange) (view : View) : Type 0 where
    pub is_root : view.root ≡ root
    pub sound : IsSound view
    pub blobs : keys_of view.blobs ≡ blobs_done run
    pub manifests : keys_of view.manifests ≡ manifests_done run
    pub held : (d : Digest) (m : Parts) → WasGiven root manifest run d m
        → Contains (pairs_of view.opened) (d, m) ⊎ Contains (manifests_done run) d
    pub read : Readings run view
    pub order : AreInOrder root manifest run

  begins_by : (view : View) → digest_of manifest.bytes ≡ root → begun root manifest ≡ Ok view
      → Leaves [] view
  begins_by view own is =
      let at = is_settled (with_root root manifest) view is in
      let pairs : pairs_of view.opened ≡ (root, manifest) ∷ [] = settled_pairs (with_root root manifest) view at in record {
        is_root = begun_root root manifest view is;
        sound = begun_sound root manifest view own is;
        blobs = ap (λ (v : View). keys_of v.blobs) at.is;
        manifests = ap (λ (v : View). keys_of v.manifests) at.is;
        held = λ d m given_one. elim given_one [
          | inl at_root ↦ inl (subst (λ (l : List (Digest × Parts)). Contains l (d, m)) (sym pairs)
              (zero, omega arith, sym (ap (λ (x : Digest). (x, m)) at_root.0 ∙ ap (λ (y : Parts). (root, y)) at_root.1)))
          | inr later ↦ absurd (none_at d m later)
        ];
        read = ((begins_or_shows (WasGiven root manifest []) (WasTold []) root manifest own (inl (refl, refl))).ok view is).0;
        order = tt;
      }
    where
      none_at : (d : Digest) (m : Parts)
          → Contains [] (exchanged (need.Manifest d) (given.Manifest m)) → ⊥
      none_at d m (k, within, is) = omega (arith, within)

  -- nothing is opened or put
  held_same : (asked : Need) (answer : Given) (before : List Exchange) (old new : View) → Leaves before old
      → pairs_of new.opened ≡ pairs_of old.opened
      → manifests_done (exchanged asked answer ∷ before) ≡ manifests_done before
      → ((d : Digest) → asked ≡ need.Manifest d → ⊥)
      → (d : Digest) (m : Parts) → WasGiven root manifest (exchanged asked answer ∷ before) d m
      → Contains (pairs_of new.opened) (d, m) ⊎ Contains (manifests_done (exchanged asked answer ∷ before)) d
  held_same asked answer before old new l pairs puts other d m given_one =
      elim (given_now (exchanged asked answer) before d m given_one) [
        | inl now ↦ absurd (other d (ap (λ (e : Exchange). e.asked) now))
        | inr earlier ↦ elim (l.held d m earlier) [
          | inl at ↦ inl (subst (λ (ps : List (Digest × Parts)). Contains ps (d, m)) (sym pairs) at)
          | inr at ↦ inr (subst (λ (ds : List Digest). Contains ds d) (sym puts) at)
        ]
      ]

  finished_kind : (before : List Exchange) (old : View) (height : ℕ) (k : ChildKind) (kid : Child) → Leaves before old
      → IsBelowAs old.blobs old.manifests height k kid → WasFinished before k kid.digest
  finished_kind before old height kind.Manifest kid l below =
      subst (λ (ds : List Digest). Contains ds kid.digest) l.manifests
      (known_key kid.digest old.manifests below.0 below.1)
  finished_kind before old height kind.Blob kid l below =
      subst (λ (ds : List Digest). Contains ds kid.digest) l.blobs (known_key kid.digest old.blobs kid.size below)
  finished_kind before old height kind.Foreign kid l below = tt

  -- the manifest that is put is the only one of its digest, and comes after all that it lists
  module _ (before : List Exchange) (old : View) (d : Digest) (o : Opened) (below : List Opened) (l : Leaves before old)
      (opened : old.opened ≡ o ∷ below) (named : o.digest ≡ d) where
    held_newest : (m : Parts) → WasGiven root manifest before d m → m ≡ o.manifest
    held_newest m given_one = elim (l.held d m given_one) [
      | inl at ↦ elim (first_or_later (o.digest, o.manifest) (pairs_of below) (d, m)
          (subst (λ (os : List Opened). Contains (pairs_of os) (d, m)) opened at)) [
            | inl same ↦ sym (ap (λ (p : Digest × Parts). p.1) same)
            | inr later ↦
                let once = subst (λ (os : List Opened). IsDistinct digest_eq (map (λ p. p.digest) os)) opened l.sound.steady.once_open in
                absurd (below_apart o.digest below m (distinct_head o.digest (map (λ p. p.digest) below) once)
                (subst (λ (x : Digest). Contains (pairs_of below) (x, m)) (sym named) later))
          ]
      | inr put ↦
          let new = subst (λ (os : List Opened). AllByRecursion (λ p. known p.digest old.manifests ≡ None) os) opened l.sound.steady.not_put in
          absurd (key_known d old.manifests (subst (λ (ds : List Digest). Contains ds d) (sym l.manifests) put)
          (subst (λ (x : Digest). known x old.manifests ≡ None) named new.0))
    ]

    comes_after : AllByRecursion (IsBelow old.blobs old.manifests (height_of old.manifests o.manifest.children)) o.manifest.children
        → ComesAfterAll root manifest d before
    comes_after each =
        let read = subst (λ (os : List Opened). AllByRecursion (λ p. WasGiven root manifest before p.digest p.manifest) os) opened
        (each_then {P = IsOpenedFrom (WasGiven root manifest before) (WasTold before) old.root} {Q = λ p. WasGiven root manifest before p.digest p.manifest} (λ p f. f.read) old.opened l.read.opened) in record {
          manifest_is = o.manifest;
          given_before = subst (λ (x : Digest). WasGiven root manifest before x o.manifest) named read.0;
          alone = held_newest;
          each = each_then {P = IsBelow old.blobs old.manifests (height_of old.manifests o.manifest.children)} {Q = λ kid. WasFinished before kid.kind kid.digest}
              (λ kid h. finished_kind before old (height_of old.manifests o.manifest.children) kid.kind kid l h) o.manifest.children each;
        }

    held_put : (new : View) → pairs_of new.opened ≡ pairs_of below → (x : Digest) (m : Parts)
        → WasGiven root manifest (exchanged (need.PutManifest d) given.Put ∷ before) x m
        → Contains (pairs_of new.opened) (x, m) ⊎ Contains (manifests_done before ++ d ∷ []) x
    held_put new pairs x m given_one =
        elim (given_now (exchanged (need.PutManifest d) given.Put) before x m given_one) [
          | inl now ↦
              let other : need.PutManifest d ≡ need.Manifest x = ap (λ (e : Exchange). e.asked) now in
              absurd (let no : ⊥ = cc in no)
          | inr earlier ↦ elim (l.held x m earlier) [
            | inl at ↦ elim (first_or_later (o.digest, o.manifest) (pairs_of below) (x, m)
                (subst (λ (os : List Opened). Contains (pairs_of os) (x, m)) opened at)) [
                  | inl same ↦
                      let e : d ≡ x = sym named ∙ ap (λ (p : Digest × Parts). p.0) same in
                      inr (subst (λ (y : Digest). Contains (manifests_done before ++ d ∷ []) y) e (contains_snoc (manifests_done before) d))
                  | inr later ↦ inl (subst (λ (ps : List (Digest × Parts)). Contains ps (x, m)) (sym pairs) later)
                ]
            | inr put ↦ inr (contains_more (manifests_done before) (d ∷ []) x put)
          ]
        ]

  -- ---- each answer

  leaves_at : (before : List Exchange) (old new : View) (asked : Need) (answer : Given) → Leaves before old
      → old.need ≡ asked → IsAnswered old asked answer new → new.root ≡ old.root → IsSound new
      → Readings (exchanged asked answer ∷ before) new → Leaves (exchanged asked answer ∷ before) new
  leaves_at before old new (need.Manifest d) (given.Manifest m) l same a to_root sound read =
      let pairs : pairs_of new.opened ≡ (d, m) ∷ pairs_of old.opened = settled_pairs (with_opened old d m a.parent) new a.settled in record {
        is_root = to_root ∙ l.is_root;
        sound = sound;
        blobs = ap (λ (v : View). keys_of v.blobs) a.settled.is ∙ l.blobs ∙ sym (append_nil (blobs_done before));
        manifests = ap (λ (v : View). keys_of v.manifests) a.settled.is ∙ l.manifests ∙ sym (append_nil (manifests_done before));
        held = λ x y given_one. elim (given_now (exchanged (need.Manifest d) (given.Manifest m)) before x y given_one) [
          | inl now ↦
              let asks : need.Manifest d ≡ need.Manifest x = ap (λ (z : Exchange). z.asked) now in
              let gives : given.Manifest m ≡ given.Manifest y = ap (λ (z : Exchange). z.answer) now in
              let e : d ≡ x = cc in
              let f : m ≡ y = cc in
              let p : (d, m) ≡ (x, y) = ap (λ (z : Digest). (z, m)) e ∙ ap (λ (z : Parts). (x, z)) f in
              inl (subst (λ (ps : List (Digest × Parts)). Contains ps (x, y)) (sym pairs) (zero, omega arith, p))
          | inr earlier ↦ elim (l.held x y earlier) [
            | inl at ↦ inl (subst (λ (ps : List (Digest × Parts)). Contains ps (x, y)) (sym pairs) (contains_later (d, m) (pairs_of old.opened) (x, y) at))
            | inr at ↦ inr (contains_more (manifests_done before) [] x at)
          ]
        ];
        read = read;
        order = (tt, l.order);
      }
  leaves_at before old new (need.HasBlob d) (given.Found (Some len)) l same a to_root sound read = record {
    is_root = to_root ∙ l.is_root;
    sound = sound;
    blobs = ap (λ (v : View). keys_of v.blobs) a.settled.is ∙ keys_snoc old.blobs d len ∙ ap (λ (ds : List Digest). ds ++ d ∷ []) l.blobs;
    manifests = ap (λ (v : View). keys_of v.manifests) a.settled.is ∙ l.manifests ∙ sym (append_nil (manifests_done before));
    held = held_same (need.HasBlob d) (given.Found (Some len)) before old new l (settled_pairs (with_blob old d len) new a.settled)
        (append_nil (manifests_done before)) (λ x now. cc);
    read = read;
    order = (tt, l.order);
  }
  leaves_at before old new (need.HasBlob d) (given.Found None) l same a to_root sound read = record {
    is_root = to_root ∙ l.is_root;
    sound = sound;
    blobs = ap (λ (v : View). keys_of v.blobs) a.is ∙ l.blobs ∙ sym (append_nil (blobs_done before));
    manifests = ap (λ (v : View). keys_of v.manifests) a.is ∙ l.manifests ∙ sym (append_nil (manifests_done before));
    held = held_same (need.HasBlob d) (given.Found None) before old new l (ap (λ (v : View). pairs_of v.opened) a.is)
        (append_nil (manifests_done before)) (λ x now. cc);
    read = read;
    order = (tt, l.order);
  }
  leaves_at before old new (need.CopyBlob d) (given.Copied len) l same a to_root sound read = record {
    is_root = to_root ∙ l.is_root;
    sound = sound;
    blobs = ap (λ (v : View). keys_of v.blobs) a.settled.is ∙ keys_snoc old.blobs d len ∙ ap (λ (ds : List Digest). ds ++ d ∷ []) l.blobs;
    manifests = ap (λ (v : View). keys_of v.manifests) a.settled.is ∙ l.manifests ∙ sym (append_nil (manifests_done before));
    held = held_same (need.CopyBlob d) (given.Copied len) before old new l (settled_pairs (with_blob old d len) new a.settled)
        (append_nil (manifests_done before)) (λ x now. cc);
    read = read;
    order = (tt, l.order);
  }
  leaves_at before old new (need.PutManifest d) given.Put l same a to_root sound read =
      let ends = comes_last old d l.sound same in
      let both : ends.newest ∷ ends.below ≡ a.newest ∷ a.below = sym ends.opened ∙ a.opened in
      let first : ends.newest ≡ a.newest = cc in
      let each = subst (λ (o : Opened). AllByRecursion (IsBelow old.blobs old.manifests (height_of old.manifests o.manifest.children)) o.manifest.children) first ends.each in
      let pairs : pairs_of new.opened ≡ pairs_of a.below = settled_pairs (with_put old a.newest a.below) new a.settled in record {
        is_root = to_root ∙ l.is_root;
        sound = sound;
        blobs = ap (λ (v : View). keys_of v.blobs) a.settled.is ∙ l.blobs ∙ sym (append_nil (blobs_done before));
        manifests = ap (λ (v : View). keys_of v.manifests) a.settled.is
            ∙ keys_snoc old.manifests a.newest.digest (finished_of old.manifests a.newest)
            ∙ ap (λ (x : Digest). keys_of old.manifests ++ x ∷ []) a.named
            ∙ ap (λ (ds : List Digest). ds ++ d ∷ []) l.manifests;
        held = held_put before old d a.newest a.below l a.opened a.named new pairs;
        read = read;
        order = (comes_after before old d a.newest a.below l a.opened a.named each, l.order);
      }
  leaves_at before old new _ _ l same a to_root sound read = absurd a

  pub leaves : (run : List Exchange) (view : View) → HasRun root manifest run view → Leaves run view
  leaves [] view at = begins_by view at.0 at.1
  leaves (e ∷ before) view at =
      let l = leaves before at.0 at.1 in
      let a = answered at.0 view e.answer l.sound at.3 at.4 in
      let fits : Answers e.asked e.answer = subst (λ (n : Need). Answers n e.answer) at.2 at.3 in
      let given_here : IsReadingOf (e ∷ before) at.0.need e.answer =
      subst (λ (n : Need). IsReadingOf (e ∷ before) n e.answer) (sym at.2) (from_run e.asked e.answer before fits) in
      leaves_at before at.0 view e.asked e.answer l at.2
      (subst (λ (n : Need). IsAnswered at.0 n e.answer view) at.2 a)
      (root_stays at.0 view e.answer l.sound at.3 at.4)
      (step_falls at.0 view e.answer l.sound at.3 at.4).0
      ((goes_or_shows (WasGiven root manifest (e ∷ before)) (WasTold (e ∷ before)) at.0 e.answer l.sound
      (more_readings e before at.0 l.read) at.3 given_here).ok view at.4).0

  -- ---- the laws

  pub orderly : (run : List Exchange) (view : View) → HasRun root manifest run view → IsOrderly root manifest run
  orderly run view at =
      let l = leaves run view at in record {
        once_blobs = subst (λ (ds : List Digest). IsDistinct digest_eq ds) l.blobs l.sound.steady.once_copied;
        once_manifests = subst (λ (ds : List Digest). IsDistinct digest_eq ds) l.manifests l.sound.steady.once_put;
        in_order = l.order;
      }

  last_is : (run : List Exchange) (view : View) → HasRun root manifest run view → view.need ≡ need.Done
      → (before : List Exchange) × (run ≡ exchanged (need.PutManifest root) given.Put ∷ before)
  last_is [] view at done = absurd (begun_undone root manifest view at.1 (begun_sound root manifest view at.0 at.1) done)
  last_is (e ∷ before) view at done =
      let l = leaves before at.0 at.1 in
      let ends = done_last at.0 view e.answer l.sound at.3 at.4 done in
      let asked : e.asked ≡ need.PutManifest root =
      sym at.2 ∙ ends.0 ∙ ap (λ (x : Digest). need.PutManifest x) l.is_root in (
        before,
        ap (λ (n : Need). exchanged n e.answer ∷ before) asked
            ∙ ap (λ (g : Given). exchanged (need.PutManifest root) g ∷ before) ends.1,
      )

  pub whole : (run : List Exchange) (view : View) → HasRun root manifest run view → view.need ≡ need.Done
      → IsWholeRun root manifest run
  whole run view at done =
      let l = leaves run view at in
      let closed : view.opened ≡ [] = done_closes view l.sound done in
      let end = last_is run view at done in record {
        orderly = orderly run view at;
        each_put = λ d m given_one. elim (l.held d m given_one) [
          | inl open_now ↦ absurd (none_open d m (subst (λ (os : List Opened). Contains (pairs_of os) (d, m)) closed open_now))
          | inr put ↦ put
        ];
        before = end.0;
        last = end.1;
      }
    where
      none_open : (d : Digest) (m : Parts) → Contains (pairs_of []) (d, m) → ⊥
      none_open d m (k, within, is) = omega (arith, within)

  pub refusal : (run : List Exchange) (view : View) (answer : Given) (why : WalkRefused) → HasRun root manifest run view
      → Answers view.need answer → outcome view answer ≡ Err why
      → IsRefusal (WasGiven root manifest (exchanged view.need answer ∷ run)) (WasTold (exchanged view.need answer ∷ run)) root why
  refusal run view answer why at fits is =
      let l = leaves run view at in
      let now = exchanged view.need answer ∷ run in
      subst (λ (x : Digest). IsRefusal (WasGiven root manifest now) (WasTold now) x why) l.is_root
      ((goes_or_shows (WasGiven root manifest now) (WasTold now) view answer l.sound
      (more_readings (exchanged view.need answer) run view l.read) fits (from_run view.need answer run fits)).err why is)

  pub begun_refusal : (why : WalkRefused) → digest_of manifest.bytes ≡ root → begun root manifest ≡ Err why
      → IsRefusal (WasGiven root manifest []) (WasTold []) root why
  begun_refusal why own is =
      (begins_or_shows (WasGiven root manifest []) (WasTold []) root manifest own (inl (refl, refl))).err why is
