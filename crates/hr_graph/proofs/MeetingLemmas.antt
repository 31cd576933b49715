-- What is known of a child by how it is met, and of the children before the next need.
use Rattle.std.proofs.Common.{◌≡◌, ℕ, ◌+◌, ◌<◌, ◌≤◌, Bool, true, false, cond, List, [], ◌∷◌, ◌++◌, zero, suc, length, take, drop, ◌⊎◌, inl, inr, refl, sym, ◌∙◌, ap, subst, arith, zero-add}
use Rattle.std.proofs.lemmas.Bool.{eqb-true, leb-true}
use borrow.Author.Tests.{ltb-true}
use Rattle.std.specs.Prelude.{Option, Some, None, Ok, Err, nat_le, nat_lt, ◌==◌, slice_get}
use Rattle.std.specs.List.{AllByRecursion}
use Rattle.hr_digest.specs.declared.digest.Digest.{Digest}
use Rattle.hr_manifest.specs.declared.child.Child.{Child}
use Rattle.hr_manifest.specs.declared.child.ChildKind.{ChildKind}
use Rattle.hr_manifest.specs.declared.child.ChildKind.TheVariants as kind
use Rattle.hr_graph.specs.declared.need.Need.{Need}
use Rattle.hr_graph.specs.declared.need.Need.TheVariants as need
use Rattle.hr_graph.specs.declared.need.WalkRefused.TheVariants.{TooDeep, TooMany, SizeDiffers}
use Rattle.hr_graph.specs.declared.meeting.Next.{Next}
use Rattle.hr_graph.specs.declared.opened.Opened.{Opened}
use Rattle.hr_graph.specs.declared.opened.Finished.{Finished}
use Rattle.hr_graph.specs.declared.opened.TheConstants.{DEPTH_LIMIT, PAIR_LIMIT}
use Rattle.hr_graph.specs.Walk.{known, is_open, met_count}
use Rattle.hr_graph.specs.Meeting.{Meeting, finished_met, new_met, blob_met, manifest_met, kind_met, next_at, next_from}
use Rattle.hr_graph.specs.Sound.{IsPassedAs, Asks}

-- a child that is passed over has the size that its descriptor says
size_by : (b : Bool) (child : Child) (len : ℕ) (m : Meeting) → (b ≡ true → child.size ≡ len)
    → m ≡ cond b (Ok None) (Err (SizeDiffers child.digest child.size len)) → m ≡ Ok None
    → child.size ≡ len
size_by true child len m so e h = so refl
size_by false child len m so e h = absurd (let no : ⊥ = cc in no)

finished_size : (child : Child) (len : ℕ) → finished_met child len ≡ Ok None → child.size ≡ len
finished_size child len h =
    size_by (child.size == len) child len (finished_met child len) (eqb-true child.size len) refl h

new_not_passed : (b : Bool) (asked : Need) (m : Meeting)
    → m ≡ cond b (Ok (Some asked)) (Err (TooMany (PAIR_LIMIT + 1))) → m ≡ Ok None → ⊥
new_not_passed true asked m e h = cc
new_not_passed false asked m e h = cc

blob_passed : (o : Option ℕ) (count : ℕ) (child : Child) → blob_met o count child ≡ Ok None
    → o ≡ Some child.size
blob_passed (Some len) count child h = ap Some (sym (finished_size child len h))
blob_passed None count child h =
    absurd (new_not_passed (nat_lt count PAIR_LIMIT) (need.HasBlob child.digest) (blob_met None count child) refl h)

abbrev IsLow : Option Finished → ℕ → Child → Type 0
IsLow o level child =
    (h : ℕ) × (o ≡ Some (record { len = child.size; height = h })) × (level + h ≤ DEPTH_LIMIT)

done_passed : (b : Bool) (level : ℕ) (child : Child) (done : Finished) (m : Meeting)
    → (b ≡ true → level + done.height ≤ DEPTH_LIMIT)
    → m ≡ cond b (finished_met child done.len) (Err (TooDeep child.digest)) → m ≡ Ok None
    → IsLow (Some done) level child
done_passed true level child done m so e h =
    let s : child.size ≡ done.len = finished_size child done.len (sym e ∙ h) in
    (done.height, ap (λ n. Some (record { len = n; height = done.height })) (sym s), so refl)
done_passed false level child done m so e h = absurd (let no : ⊥ = cc in no)

deep_or_new : (b : Bool) (count : ℕ) (child : Child) (m : Meeting)
    → m ≡ cond b (new_met count (need.Manifest child.digest)) (Err (TooDeep child.digest))
    → m ≡ Ok None → ⊥
deep_or_new true count child m e h =
    new_not_passed (nat_lt count PAIR_LIMIT) (need.Manifest child.digest) m e h
deep_or_new false count child m e h = cc

manifest_passed : (o : Option Finished) (open_now : Bool) (level count : ℕ) (child : Child)
    → manifest_met o open_now level count child ≡ Ok None → IsLow o level child
manifest_passed (Some done) open_now level count child h =
    done_passed (nat_le (level + done.height) DEPTH_LIMIT) level child done
    (manifest_met (Some done) open_now level count child) (leb-true (level + done.height) DEPTH_LIMIT) refl h
manifest_passed None true level count child h = absurd (let no : ⊥ = cc in no)
manifest_passed None false level count child h =
    absurd (deep_or_new (nat_le level DEPTH_LIMIT) count child (manifest_met None false level count child) refl h)

-- a child that is asked for is new
abbrev IsNew : ℕ → Need → Need → Type 0
IsNew count asked wanted = (asked ≡ wanted) × (count < PAIR_LIMIT)

new_by : (b : Bool) (count : ℕ) (wanted asked : Need) (m : Meeting) → (b ≡ true → count < PAIR_LIMIT)
    → m ≡ cond b (Ok (Some wanted)) (Err (TooMany (PAIR_LIMIT + 1))) → m ≡ Ok (Some asked)
    → IsNew count asked wanted
new_by true count wanted asked m so e h = ((cc), so refl)
new_by false count wanted asked m so e h = absurd (let no : ⊥ = cc in no)

new_asked : (count : ℕ) (wanted asked : Need) (m : Meeting) → m ≡ new_met count wanted
    → m ≡ Ok (Some asked) → IsNew count asked wanted
new_asked count wanted asked m e h =
    new_by (nat_lt count PAIR_LIMIT) count wanted asked m (ltb-true count PAIR_LIMIT) e h

finished_not_asked : (b : Bool) (child : Child) (len : ℕ) (asked : Need) (m : Meeting)
    → m ≡ cond b (Ok None) (Err (SizeDiffers child.digest child.size len)) → m ≡ Ok (Some asked) → ⊥
finished_not_asked true child len asked m e h = cc
finished_not_asked false child len asked m e h = cc

blob_asked : (o : Option ℕ) (count : ℕ) (child : Child) (asked : Need)
    → blob_met o count child ≡ Ok (Some asked)
    → (o ≡ None) × IsNew count asked (need.HasBlob child.digest)
blob_asked (Some len) count child asked h =
    absurd (finished_not_asked (child.size == len) child len asked (blob_met (Some len) count child) refl h)
blob_asked None count child asked h =
    (refl, new_asked count (need.HasBlob child.digest) asked (blob_met None count child) refl h)

done_not_asked : (b : Bool) (child : Child) (done : Finished) (asked : Need) (m : Meeting)
    → m ≡ cond b (finished_met child done.len) (Err (TooDeep child.digest)) → m ≡ Ok (Some asked) → ⊥
done_not_asked true child done asked m e h =
    finished_not_asked (child.size == done.len) child done.len asked m e h
done_not_asked false child done asked m e h = cc

deep_asked : (b : Bool) (level count : ℕ) (child : Child) (asked : Need) (m : Meeting)
    → (b ≡ true → level ≤ DEPTH_LIMIT)
    → m ≡ cond b (new_met count (need.Manifest child.digest)) (Err (TooDeep child.digest))
    → m ≡ Ok (Some asked) → (level ≤ DEPTH_LIMIT) × IsNew count asked (need.Manifest child.digest)
deep_asked true level count child asked m so e h =
    (so refl, new_asked count (need.Manifest child.digest) asked m e h)
deep_asked false level count child asked m so e h = absurd (let no : ⊥ = cc in no)

manifest_asked : (o : Option Finished) (open_now : Bool) (level count : ℕ) (child : Child) (asked : Need)
    → manifest_met o open_now level count child ≡ Ok (Some asked)
    → (o ≡ None) × (open_now ≡ false)
    × ((level ≤ DEPTH_LIMIT) × IsNew count asked (need.Manifest child.digest))
manifest_asked (Some done) open_now level count child asked h =
    absurd (done_not_asked (nat_le (level + done.height) DEPTH_LIMIT) child done asked
    (manifest_met (Some done) open_now level count child) refl h)
manifest_asked None true level count child asked h = absurd (let no : ⊥ = cc in no)
manifest_asked None false level count child asked h = (
  refl,
  refl,
  deep_asked (nat_le level DEPTH_LIMIT) level count child asked
      (manifest_met None false level count child) (leb-true level DEPTH_LIMIT) refl h,
)

module _ (blobs : List (Digest × ℕ)) (manifests : List (Digest × Finished)) where
  pub kind_passed : (opened : List Opened) (k : ChildKind) (level : ℕ) (child : Child)
      → kind_met opened blobs manifests k level child ≡ Ok None
      → IsPassedAs blobs manifests k level child
  kind_passed opened kind.Foreign level child h = tt
  kind_passed opened kind.Blob level child h =
      blob_passed (known child.digest blobs) (met_count opened blobs manifests) child h
  kind_passed opened kind.Manifest level child h =
      let p = manifest_passed (known child.digest manifests) (is_open child.digest opened) level
      (met_count opened blobs manifests) child h in
      record { height = p.0; there = p.1; depth = p.2 }

  -- what is asked for is the next child
  pub kind_asked : (o : Opened) (at : ℕ) (below : List Opened) (asked : Need) (k : ChildKind) (child : Child)
      → slice_get o.manifest.children at ≡ Some child → child.kind ≡ k
      → kind_met (o ∷ below) blobs manifests k (o.level + 1) child ≡ Ok (Some asked)
      → Asks blobs manifests asked (record o { next = at } ∷ below)
  kind_asked o at below asked kind.Foreign child listed is h = absurd (let no : ⊥ = cc in no)
  kind_asked o at below asked kind.Blob child listed is h =
      let a = blob_asked (known child.digest blobs) (met_count (o ∷ below) blobs manifests) child asked h in
      let P : Need → Type 0 = λ n. Asks blobs manifests n (record o { next = at } ∷ below) in
      subst P (sym a.1.0) (record { child = child; listed = listed; kind = is; digest_is = refl }, a.0, a.1.1)
  kind_asked o at below asked kind.Manifest child listed is h =
      let a = manifest_asked (known child.digest manifests) (is_open child.digest (o ∷ below)) (o.level + 1)
      (met_count (o ∷ below) blobs manifests) child asked h in
      let P : Need → Type 0 = λ n. Asks blobs manifests n (record o { next = at } ∷ below) in
      subst P (sym a.2.1.0)
      (record { child = child; listed = listed; kind = is; digest_is = refl }, a.0, a.1, a.2.0, a.2.1.1)

-- where the next need is found in these children: so many are passed over first
pub record Reaches (meet : Child → Meeting) (passes : Child → Type 0) (digest : Digest) (at : ℕ) (cs : List Child) (n : Next) : Type 0 where
  pub count : ℕ
  pub place : n.at ≡ at + count
  pub within : count ≤ length cs
  pub each : AllByRecursion passes (take count cs)
  pub ends : ((n.need ≡ need.PutManifest digest) × (count ≡ length cs))
      ⊎ ((child : Child) × (slice_get cs count ≡ Some child) × (meet child ≡ Ok (Some n.need)))

module _ (meet : Child → Meeting) (passes : Child → Type 0) (digest : Digest) (says : (c : Child) → meet c ≡ Ok None → passes c) where
  later_ends : (c : Child) (cs : List Child) (n : Next) (count : ℕ)
      → ((n.need ≡ need.PutManifest digest) × (count ≡ length cs))
      ⊎ ((child : Child) × (slice_get cs count ≡ Some child) × (meet child ≡ Ok (Some n.need)))
      → ((n.need ≡ need.PutManifest digest) × (suc count ≡ length (c ∷ cs)))
      ⊎ ((child : Child) × (slice_get (c ∷ cs) (suc count) ≡ Some child) × (meet child ≡ Ok (Some n.need)))
  later_ends c cs n count (inl e) = inl (e.0, omega (arith, e.1))
  later_ends c cs n count (inr e) = inr e

  reached : (m : Meeting) (c : Child) (at : ℕ) (cs : List Child) (n : Next) → meet c ≡ m
      → next_at m at (next_from meet digest (at + 1) cs) ≡ Ok n
      → (next_from meet digest (at + 1) cs ≡ Ok n → Reaches meet passes digest (at + 1) cs n)
      → Reaches meet passes digest at (c ∷ cs) n
  reached (Ok None) c at cs n is h later =
      let r = later h in
      record {
        count = suc r.count;
        place = omega (arith, r.place);
        within = omega (arith, r.within);
        each = (says c is, r.each);
        ends = later_ends c cs n r.count r.ends;
      }
  reached (Ok (Some asked)) c at cs n is h later =
      let e : record { at = at; need = asked } ≡ n = cc in
      let place : at ≡ n.at = ap (λ (x : Next). x.at) e in
      let same : asked ≡ n.need = ap (λ (x : Next). x.need) e in
      record {
        count = 0;
        place = omega (arith, place);
        within = omega arith;
        each = tt;
        ends = inr (c, refl, is ∙ ap (λ x. Ok (Some x)) same);
      }
  reached (Err why) c at cs n is h later = absurd (let no : ⊥ = cc in no)

  pub reaches : (cs : List Child) (at : ℕ) (n : Next) → next_from meet digest at cs ≡ Ok n
      → Reaches meet passes digest at cs n
  reaches [] at n h =
      let e : record { at = at; need = need.PutManifest digest } ≡ n = cc in
      let place : at ≡ n.at = ap (λ (x : Next). x.at) e in
      let same : need.PutManifest digest ≡ n.need = ap (λ (x : Next). x.need) e in
      record {
        count = 0;
        place = omega (arith, place);
        within = omega arith;
        each = tt;
        ends = inl (sym same, refl);
      }
  reaches (c ∷ cs) at n h = reached (meet c) c at cs n refl h (reaches cs (at + 1) n)

pub all_append : {A : Type 0} (P : A → Type 0) (xs ys : List A) → AllByRecursion P xs → AllByRecursion P ys
    → AllByRecursion P (xs ++ ys)
all_append P [] ys p q = q
all_append P (x ∷ xs) ys p q = (p.0, all_append P xs ys p.1 q)

pub slice_get-drop : {A : Type 0} (n k : ℕ) (xs : List A) → slice_get (drop n xs) k ≡ slice_get xs (n + k)
slice_get-drop zero k xs = rw (zero-add k) refl
slice_get-drop (suc n) k [] = refl
slice_get-drop (suc n) k (x ∷ xs) =
    let e : suc n + k ≡ suc (n + k) = omega arith in
    rw e (slice_get-drop n k xs)
