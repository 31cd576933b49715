-- What holds of a walk holds after each step.
use Rattle.std.proofs.Common.{◌≡◌, ℕ, ◌+◌, ◌<◌, ◌≤◌, false, List, [], ◌∷◌, ◌++◌, length, take, drop, ◌⊎◌, inl, inr, refl, sym, ◌∙◌, ap, subst, arith, length-append, length-drop}
use Rattle.std.proofs.Math.Seq.{take-add, take-length}
use Rattle.std.specs.Prelude.{Some, None, Ok, map, slice_get}
use Rattle.std.specs.List.{AllByRecursion}
use Rattle.hr_digest.specs.declared.digest.Digest.{Digest}
use Rattle.hr_digest.specs.Digest.{digest_of}
use Rattle.hr_digest.specs.Order.{digest_eq}
use Rattle.hr_manifest.specs.Manifest.{Parts}
use Rattle.hr_manifest.specs.declared.child.Child.{Child}
use Rattle.hr_manifest.specs.declared.child.ChildKind.{ChildKind}
use Rattle.hr_manifest.specs.declared.child.ChildKind.TheVariants as kind
use Rattle.hr_graph.specs.declared.need.Need.{Need}
use Rattle.hr_graph.specs.declared.need.Need.TheVariants as need
use Rattle.hr_graph.specs.declared.meeting.Next.{Next}
use Rattle.hr_graph.specs.declared.opened.Opened.{Opened}
use Rattle.hr_graph.specs.declared.opened.Finished.{Finished}
use Rattle.hr_graph.specs.declared.opened.TheConstants.{DEPTH_LIMIT, PAIR_LIMIT}
use Rattle.hr_graph.specs.Walk.{View, known, met_count, said_by, size_said}
use Rattle.hr_graph.specs.Meeting.{Meeting, child_met, next_in, moved_to}
use Rattle.hr_graph.specs.Step.{with_root, with_opened, with_blob, with_put, height_by, height_of, finished_of}
use Rattle.hr_graph.specs.Sound.{StandsOver, IsPassedAs, IsPassed, HasPassed, Asks, AsksBlob, AsksManifest, IsSteady, IsSound}
use Rattle.hr_graph.proofs.KnownLemmas.{known_kept, known_new, known_absent, unequal, distinct_snoc, distinct_head, distinct_tail, distinct_open, distinct_none, distinct_one}
use Rattle.hr_graph.proofs.MeetingLemmas.{Reaches, reaches, kind_passed, kind_asked, all_append, slice_get-drop}

-- the newest open manifest at its next need
module _ (blobs : List (Digest × ℕ)) (manifests : List (Digest × Finished)) (o : Opened) (below : List Opened) where
  abbrev meet : Child → Meeting
  meet child = child_met (o ∷ below) blobs manifests (o.level + 1) child

  abbrev passes : Child → Type 0
  passes child = IsPassed blobs manifests (o.level + 1) child

  says : (c : Child) → meet c ≡ Ok None → passes c
  says c h = kind_passed blobs manifests (o ∷ below) c.kind (o.level + 1) c h

  abbrev at_next : Next → Opened
  at_next n = record o { next = n.at }

  passed_to : (n : Next) → HasPassed blobs manifests o
      → Reaches meet passes o.digest o.next (drop o.next o.manifest.children) n
      → HasPassed blobs manifests (at_next n)
  passed_to n h r =
      let len : length (drop o.next o.manifest.children) + o.next ≡ length o.manifest.children =
      omega (arith, length-drop o.next o.manifest.children, h.within) in
      let e : take n.at o.manifest.children
      ≡ take o.next o.manifest.children ++ take r.count (drop o.next o.manifest.children) =
      ap (λ k. take k o.manifest.children) r.place ∙ take-add o.next r.count o.manifest.children in
      record {
        within = omega (arith, len, r.place, r.within);
        each = let P : List Child → Type 0 = AllByRecursion passes in
            subst P (sym e) (all_append passes (take o.next o.manifest.children)
            (take r.count (drop o.next o.manifest.children)) h.each r.each);
      }

  asks_at : (n : Next) → HasPassed blobs manifests o → (count : ℕ) → n.at ≡ o.next + count
      → ((n.need ≡ need.PutManifest o.digest) × (count ≡ length (drop o.next o.manifest.children)))
      ⊎ ((child : Child) × (slice_get (drop o.next o.manifest.children) count ≡ Some child) × (meet child ≡ Ok (Some n.need)))
      → Asks blobs manifests n.need (at_next n ∷ below)
  asks_at n h count place (inl e) =
      let len : length (drop o.next o.manifest.children) + o.next ≡ length o.manifest.children =
      omega (arith, length-drop o.next o.manifest.children, h.within) in
      let P : Need → Type 0 = λ x. Asks blobs manifests x (at_next n ∷ below) in
      subst P (sym e.0) (refl, omega (arith, len, place, e.1))
  asks_at n h count place (inr e) =
      let listed : slice_get o.manifest.children n.at ≡ Some e.0 =
      ap (λ k. slice_get o.manifest.children k) place
      ∙ sym (slice_get-drop o.next count o.manifest.children) ∙ e.1 in
      kind_asked blobs manifests o n.at below n.need e.0.kind e.0 listed refl e.2

  pub settles : (n : Next) → HasPassed blobs manifests o
      → next_in (o ∷ below) blobs manifests ≡ Ok n
      → HasPassed blobs manifests (at_next n) × Asks blobs manifests n.need (at_next n ∷ below)
  settles n h is =
      let r = reaches meet passes o.digest says (drop o.next o.manifest.children) o.next n is in
      (passed_to n h r, asks_at n h r.count r.place r.ends)

-- a walk by its parts
abbrev pub parts : Digest → List Opened → List (Digest × ℕ) → List (Digest × Finished) → Need → View
parts root opened blobs manifests need = record {
  root = root;
  opened = opened;
  blobs = blobs;
  manifests = manifests;
  need = need;
}

-- only the place in the newest open manifest changes
over_moved : (root : Digest) (o : Opened) (at : ℕ) (below : List Opened) → StandsOver root o below → StandsOver root (record o { next = at }) below
over_moved root o at [] h = h
over_moved root o at (p ∷ below) h = record {
  child = h.child;
  listed = h.listed;
  kind = h.kind;
  digest = h.digest;
  size = h.size;
  level = h.level;
}

steady_moved : (root : Digest) (o : Opened) (at : ℕ) (below : List Opened) (blobs : List (Digest × ℕ))
    (manifests : List (Digest × Finished)) (x y : Need)
    → IsSteady (parts root (o ∷ below) blobs manifests x) → HasPassed blobs manifests (record o { next = at })
    → IsSteady (parts root (record o { next = at } ∷ below) blobs manifests y)
steady_moved root o at below blobs manifests x y s h = record {
  chain = (record { over = over_moved root o at below s.chain.0.over; digest = s.chain.0.digest; depth = s.chain.0.depth }, s.chain.1);
  passed = (h, s.passed.1);
  once_open = s.once_open;
  not_put = s.not_put;
  once_put = s.once_put;
  once_copied = s.once_copied;
  low = s.low;
  few = s.few;
  root_put = λ e. absurd (let no : ⊥ = cc in no);
}

settle_by : (root : Digest) (opened : List Opened) (blobs : List (Digest × ℕ)) (manifests : List (Digest × Finished)) (x : Need) (n : Next)
    → IsSteady (parts root opened blobs manifests x) → next_in opened blobs manifests ≡ Ok n
    → IsSound (parts root (moved_to n.at opened) blobs manifests n.need)
settle_by root [] blobs manifests x n s is =
    let e : record { at = 0; need = need.Done } ≡ n = cc in
    let same : need.Done ≡ n.need = ap (λ (y : Next). y.need) e in
    let P : Need → Type 0 = λ y. IsSound (parts root [] blobs manifests y) in
    subst P same (record {
      steady = record {
        chain = s.chain;
        passed = s.passed;
        once_open = s.once_open;
        not_put = s.not_put;
        once_put = s.once_put;
        once_copied = s.once_copied;
        low = s.low;
        few = s.few;
        root_put = s.root_put;
      };
      asks = refl;
    })
settle_by root (o ∷ below) blobs manifests x n s is =
    let r = settles blobs manifests o below n s.passed.0 is in
    record { steady = steady_moved root o n.at below blobs manifests x n.need s r.0; asks = r.1 }

-- a walk that is steady is sound once it is at its next need
pub settle_sound : (v : View) (n : Next) → IsSteady v → next_in v.opened v.blobs v.manifests ≡ Ok n
    → IsSound (record v { opened = moved_to n.at v.opened; need = n.need })
settle_sound v n s is = settle_by v.root v.opened v.blobs v.manifests v.need n s is

-- what was passed over stays so
module _ (blobs more_blobs : List (Digest × ℕ)) (manifests more : List (Digest × Finished))
    (blobs_kept : (q : Digest) (x : ℕ) → known q blobs ≡ Some x → known q more_blobs ≡ Some x)
    (manifests_kept : (q : Digest) (x : Finished) → known q manifests ≡ Some x → known q more ≡ Some x) where
  kind_kept : (k : ChildKind) (level : ℕ) (child : Child) → IsPassedAs blobs manifests k level child
      → IsPassedAs more_blobs more k level child
  kind_kept kind.Foreign level child h = tt
  kind_kept kind.Blob level child h = blobs_kept child.digest child.size h
  kind_kept kind.Manifest level child h = record {
    height = h.height;
    there = manifests_kept child.digest (record { len = child.size; height = h.height }) h.there;
    depth = h.depth;
  }

  each_kept : (level : ℕ) (cs : List Child) → AllByRecursion (IsPassed blobs manifests level) cs
      → AllByRecursion (IsPassed more_blobs more level) cs
  each_kept level [] h = tt
  each_kept level (c ∷ cs) h = (kind_kept c.kind level c h.0, each_kept level cs h.1)

  pub passed_kept : (opened : List Opened) → AllByRecursion (HasPassed blobs manifests) opened
      → AllByRecursion (HasPassed more_blobs more) opened
  passed_kept [] h = tt
  passed_kept (o ∷ os) h =
      (record { within = h.0.within; each = each_kept (o.level + 1) (take o.next o.manifest.children) h.0.each }, passed_kept os h.1)

-- one more blob
pub blob_steady : (v : View) (d : Digest) (len : ℕ) → IsSteady v → AsksBlob v.blobs v.manifests d v.opened
    → IsSteady (with_blob v d len)
blob_steady v d len s a = blob_steady_at v d len s (asked v.opened a).0 (asked v.opened a).1
  where
    asked : (opened : List Opened) → AsksBlob v.blobs v.manifests d opened
        → (known d v.blobs ≡ None) × (met_count opened v.blobs v.manifests < PAIR_LIMIT)
    asked [] h = absurd h
    asked (o ∷ os) h = (h.1, h.2)

    blob_steady_at : (v : View) (d : Digest) (len : ℕ) → IsSteady v → known d v.blobs ≡ None
        → met_count v.opened v.blobs v.manifests < PAIR_LIMIT → IsSteady (with_blob v d len)
    blob_steady_at v d len s new room = record {
      chain = s.chain;
      passed = passed_kept v.blobs (v.blobs ++ (d, len) ∷ []) v.manifests v.manifests
          (λ q x. known_kept q v.blobs ((d, len) ∷ []) x) (λ q x h. h) v.opened s.passed;
      once_open = s.once_open;
      not_put = s.not_put;
      once_put = s.once_put;
      once_copied = distinct_snoc d v.blobs len s.once_copied new;
      low = s.low;
      few = omega (arith, room, length-append v.blobs ((d, len) ∷ []));
      root_put = s.root_put;
    }

-- a walk with its root alone
pub root_steady : (root : Digest) (m : Parts) → digest_of m.bytes ≡ root → IsSteady (with_root root m)
root_steady root m is = record {
  chain = (record { over = (refl, refl); digest = is; depth = omega arith }, tt);
  passed = (record { within = omega arith; each = tt }, tt);
  once_open = distinct_one root;
  not_put = (refl, tt);
  once_put = distinct_none;
  once_copied = distinct_none;
  low = tt;
  few = omega arith;
  root_put = λ e. absurd (let no : ⊥ = cc in no);
}

-- one more manifest is open
pub manifest_steady : (root : Digest) (o : Opened) (below : List Opened) (blobs : List (Digest × ℕ))
    (manifests : List (Digest × Finished)) (x : Need) (d : Digest) (m : Parts)
    → IsSteady (parts root (o ∷ below) blobs manifests x) → AsksManifest blobs manifests d (o ∷ below)
    → digest_of m.bytes ≡ d → size_said o ≡ length m.bytes
    → IsSteady (with_opened (parts root (o ∷ below) blobs manifests x) d m o)
manifest_steady root o below blobs manifests x d m s a is size = record {
  chain = (
    record {
      over = record {
        child = a.0.child;
        listed = a.0.listed;
        kind = a.0.kind;
        digest = a.0.digest_is;
        size = sym (ap said_by a.0.listed) ∙ size;
        level = refl;
      };
      digest = is;
      depth = a.3;
    },
    s.chain,
  );
  passed = (record { within = omega arith; each = tt }, s.passed);
  once_open = distinct_open d (o ∷ below) a.2 s.once_open;
  not_put = (a.1, s.not_put);
  once_put = s.once_put;
  once_copied = s.once_copied;
  low = s.low;
  few = omega (arith, a.4);
  root_put = λ e. absurd (let no : ⊥ = cc in no);
}

-- nothing stands too deep below a manifest whose children were all passed over
kind_low : (blobs : List (Digest × ℕ)) (manifests : List (Digest × Finished)) (k : ChildKind) (level : ℕ) (c : Child)
    → level ≤ DEPTH_LIMIT → IsPassedAs blobs manifests k (level + 1) c
    → level + height_by k (known c.digest manifests) ≤ DEPTH_LIMIT
kind_low blobs manifests kind.Foreign level c l h = omega (arith, l)
kind_low blobs manifests kind.Blob level c l h = omega (arith, l)
kind_low blobs manifests kind.Manifest level c l h =
    let e : height_by kind.Manifest (known c.digest manifests) ≡ h.height + 1 =
    ap (λ o. height_by kind.Manifest o) h.there in
    omega (arith, e, h.depth)

pub height_low : (blobs : List (Digest × ℕ)) (manifests : List (Digest × Finished)) (level : ℕ) (cs : List Child)
    → level ≤ DEPTH_LIMIT → AllByRecursion (IsPassed blobs manifests (level + 1)) cs
    → level + height_of manifests cs ≤ DEPTH_LIMIT
height_low blobs manifests level [] l h = omega (arith, l)
height_low blobs manifests level (c ∷ cs) l h =
    omega (arith, kind_low blobs manifests c.kind level c l h.0, height_low blobs manifests level cs l h.1)

-- what isn't put stays so, beside a manifest that is
not_put_kept : (d : Digest) (done : Finished) (manifests : List (Digest × Finished)) (os : List Opened)
    → AllByRecursion (λ o. known o.digest manifests ≡ None) os
    → AllByRecursion (λ y. digest_eq d y ≡ false) (map (λ o. o.digest) os)
    → AllByRecursion (λ o. known o.digest (manifests ++ (d, done) ∷ []) ≡ None) os
not_put_kept d done manifests [] h apart = tt
not_put_kept d done manifests (o ∷ os) h apart = (
  known_absent o.digest d manifests done h.0 (unequal d o.digest apart.0),
  not_put_kept d done manifests os h.1 apart.1,
)

low_snoc : (d : Digest) (done : Finished) (manifests : List (Digest × Finished))
    → AllByRecursion (λ e. e.1.height ≤ DEPTH_LIMIT) manifests → done.height ≤ DEPTH_LIMIT
    → AllByRecursion (λ e. e.1.height ≤ DEPTH_LIMIT) (manifests ++ (d, done) ∷ [])
low_snoc d done [] h l = (l, tt)
low_snoc d done (e ∷ es) h l = (h.0, low_snoc d done es h.1 l)

root_was_put : (root : Digest) (o : Opened) (below : List Opened) (manifests : List (Digest × Finished)) (done : Finished)
    → StandsOver root o below → known o.digest manifests ≡ None → below ≡ []
    → (f : Finished) × (known root (manifests ++ (o.digest, done) ∷ []) ≡ Some f)
root_was_put root o [] manifests done over new e =
    let P : Digest → Type 0 = λ d. known d (manifests ++ (o.digest, done) ∷ []) ≡ Some done in
    (done, subst P over.0 (known_new o.digest manifests done new))
root_was_put root o (p ∷ below) manifests done over new e = absurd (let no : ⊥ = cc in no)

-- every child of a manifest that is to be put was passed over
pub all_passed : (blobs : List (Digest × ℕ)) (manifests : List (Digest × Finished)) (o : Opened)
    → HasPassed blobs manifests o → o.next ≡ length o.manifest.children
    → AllByRecursion (IsPassed blobs manifests (o.level + 1)) o.manifest.children
all_passed blobs manifests o h e =
    let P : List Child → Type 0 = AllByRecursion (IsPassed blobs manifests (o.level + 1)) in
    subst P (ap (λ n. take n o.manifest.children) e ∙ take-length o.manifest.children) h.each

-- the newest open manifest is put
pub put_steady : (root : Digest) (o : Opened) (below : List Opened) (blobs : List (Digest × ℕ))
    (manifests : List (Digest × Finished)) (x : Need)
    → IsSteady (parts root (o ∷ below) blobs manifests x) → o.next ≡ length o.manifest.children
    → IsSteady (with_put (parts root (o ∷ below) blobs manifests x) o below)
put_steady root o below blobs manifests x s ready =
    let low = height_low blobs manifests o.level o.manifest.children s.chain.0.depth
    (all_passed blobs manifests o s.passed.0 ready) in
    record {
      chain = s.chain.1;
      passed = passed_kept blobs blobs manifests (manifests ++ (o.digest, finished_of manifests o) ∷ [])
          (λ q y h. h) (λ q y. known_kept q manifests ((o.digest, finished_of manifests o) ∷ []) y) below s.passed.1;
      once_open = distinct_tail o.digest (map (λ p. p.digest) below) s.once_open;
      not_put = not_put_kept o.digest (finished_of manifests o) manifests below s.not_put.1
          (distinct_head o.digest (map (λ p. p.digest) below) s.once_open);
      once_put = distinct_snoc o.digest manifests (finished_of manifests o) s.once_put s.not_put.0;
      once_copied = s.once_copied;
      low = low_snoc o.digest (finished_of manifests o) manifests s.low (omega (arith, low));
      few = omega (arith, s.few, length-append manifests ((o.digest, finished_of manifests o) ∷ []));
      root_put = root_was_put root o below manifests (finished_of manifests o) s.chain.0.over s.not_put.0;
    }
