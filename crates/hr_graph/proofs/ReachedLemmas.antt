-- What is below what is reached, and what a refused child shows.
use Rattle.std.proofs.Common.{◌≡◌, inl, inr, ℕ, zero, suc, ◌+◌, ◌<◌, ◌≤◌, Bool, true, false, cond, List, [], ◌∷◌, ◌++◌, length, refl, sym, ap, subst, arith, length-append}
use Rattle.std.proofs.lemmas.Bool.{eqb-false, leb-false}
use borrow.Author.Tests.{ltb-false}
use Rattle.std.specs.Prelude.{Option, Some, None, Result, Ok, Err, Contains, nat_le, nat_lt, ◌==◌}
use Rattle.std.specs.List.{AllByRecursion, IsDistinct}
use Rattle.std.specs.Map.{keys_of}
use Rattle.hr_digest.specs.declared.digest.Digest.{Digest}
use Rattle.hr_digest.specs.Order.{digest_eq}
use Rattle.hr_manifest.specs.Manifest.{Parts}
use Rattle.hr_manifest.specs.declared.child.Child.{Child}
use Rattle.hr_manifest.specs.declared.child.ChildKind.{ChildKind}
use Rattle.hr_manifest.specs.declared.child.ChildKind.TheVariants as kind
use Rattle.hr_graph.specs.declared.need.Need.{Need}
use Rattle.hr_graph.specs.declared.need.Need.TheVariants as need
use Rattle.hr_graph.specs.declared.need.WalkRefused.{WalkRefused}
use Rattle.hr_graph.specs.declared.need.WalkRefused.TheVariants.{TooDeep, TooMany, SizeDiffers}
use Rattle.hr_graph.specs.declared.meeting.Next.{Next}
use Rattle.hr_graph.specs.declared.opened.Opened.{Opened}
use Rattle.hr_graph.specs.declared.opened.Finished.{Finished}
use Rattle.hr_graph.specs.declared.opened.TheConstants.{DEPTH_LIMIT, PAIR_LIMIT}
use Rattle.hr_graph.specs.Walk.{known, is_open, met_count, rest_of}
use Rattle.hr_graph.specs.Meeting.{Meeting, finished_met, new_met, blob_met, manifest_met, kind_met, child_met, next_at, next_from, next_in}
use Rattle.hr_graph.specs.Reached.{ListsChild, Reached, IsReachable, IsTooDeep, AreTooMany, HasLen, IsUnsized, IsRefusal, IsOpenedFrom, IsBlobFrom, IsPutFrom, AreFromReadings}
use Rattle.hr_graph.specs.Sound.{IsChain, IsSteady}
use Rattle.hr_graph.proofs.ContainsLemmas.{apart_both, apart_keys, all_drop, digests_of, distinct_both, distinct_cons, each_contained, each_digest, each_key, get_contains, length-digests, length-keys, or_true}
use Rattle.hr_graph.proofs.KnownLemmas.{digest_same, known_all}
use Rattle.hr_graph.proofs.MeetingLemmas.{all_append}
use Rattle.hr_graph.proofs.SoundLemmas.{parts}

module _ (R : Digest → Parts → Type 0) where
  -- ---- what is below what is below

  pub joined : (a b : ℕ) (root p : Digest) (k : ChildKind) (d : Digest) → Reached R a root kind.Manifest p
      → Reached R b p k d → (n : ℕ) × (n ≡ a + b) × Reached R n root k d
  joined a zero root p k d up low = (
    a,
    omega arith,
    subst (λ (j : ChildKind). Reached R a root j d) (sym low.0)
        (subst (λ (x : Digest). Reached R a root kind.Manifest x) (sym low.1) up),
  )
  joined a (suc b) root p k d up low =
      let r = joined a b root p kind.Manifest low.0 up low.1 in (suc r.0, omega (arith, r.1), (low.0, r.2, low.2))

  as_kind : (n : ℕ) (root : Digest) (kid : Child) (k : ChildKind) → kid.kind ≡ k
      → Reached R n root kid.kind kid.digest → Reached R n root k kid.digest
  as_kind n root kid k is at = subst (λ (j : ChildKind). Reached R n root j kid.digest) is at

  -- what leads back to itself goes as deep as one likes
  round : (d : Digest) (k times : ℕ) → Reached R (suc k) d kind.Manifest d
      → (n : ℕ) × (times ≤ n) × Reached R n d kind.Manifest d
  round d k zero loop = (zero, omega arith, (refl, refl))
  round d k (suc times) loop =
      let r = round d k times loop in
      let j = joined r.0 (suc k) d d kind.Manifest d r.2 loop in (j.0, omega (arith, r.1, j.1), j.2)

  -- ---- what is refused, at the newest open manifest

  module _ (B : Digest → ℕ → Type 0) (root : Digest) (o : Opened) (below : List Opened)
      (blobs : List (Digest × ℕ)) (manifests : List (Digest × Finished)) (x : Need)
      (s : IsSteady (parts root (o ∷ below) blobs manifests x))
      (read : AreFromReadings R B (parts root (o ∷ below) blobs manifests x)) where
    abbrev opened : List Opened
    opened = o ∷ below

    abbrev count : ℕ
    count = met_count opened blobs manifests

    each_blob : AllByRecursion (IsReachable R root kind.Blob) (keys_of blobs)
    each_blob = each_key (IsReachable R root kind.Blob) (IsBlobFrom R B root) (λ e f. f.there) blobs read.blobs

    each_open : AllByRecursion (IsReachable R root kind.Manifest) (digests_of opened)
    each_open =
        each_digest (IsReachable R root kind.Manifest) (IsOpenedFrom R B root) (λ p f. (p.level, f.there)) opened read.opened

    each_put : AllByRecursion (IsReachable R root kind.Manifest) (keys_of manifests)
    each_put =
        each_key (IsReachable R root kind.Manifest) (IsPutFrom R B root) (λ e f. f.there) manifests read.manifests

    each_manifest : AllByRecursion (IsReachable R root kind.Manifest) (digests_of opened ++ keys_of manifests)
    each_manifest =
        all_append (IsReachable R root kind.Manifest) (digests_of opened) (keys_of manifests) each_open each_put

    once : IsDistinct digest_eq (digests_of opened ++ keys_of manifests)
    once = distinct_both opened manifests s.once_open s.not_put s.once_put

    long : length (digests_of opened ++ keys_of manifests) ≡ length manifests + length opened
    long =
        omega (arith, length-append (digests_of opened) (keys_of manifests), length-keys manifests, length-digests opened)

    -- one pair more than may be met
    many_blob : (d : Digest) → IsReachable R root kind.Blob d → known d blobs ≡ None → PAIR_LIMIT ≤ count
        → AreTooMany R root
    many_blob d at new full = record {
      blobs = d ∷ keys_of blobs;
      manifests = digests_of opened ++ keys_of manifests;
      once_blobs = distinct_cons d (keys_of blobs) (apart_keys d blobs new) s.once_copied;
      once_manifests = once;
      each_blob = (at, each_blob);
      each_manifest = each_manifest;
      many = omega (arith, full, long, length-keys blobs);
    }

    many_manifest : (d : Digest) → IsReachable R root kind.Manifest d → is_open d opened ≡ false
        → known d manifests ≡ None → PAIR_LIMIT ≤ count → AreTooMany R root
    many_manifest d at shut new full = record {
      blobs = keys_of blobs;
      manifests = d ∷ digests_of opened ++ keys_of manifests;
      once_blobs = s.once_copied;
      once_manifests = distinct_cons d (digests_of opened ++ keys_of manifests)
          (apart_both d opened manifests s.once_open shut new) once;
      each_blob = each_blob;
      each_manifest = (at, each_manifest);
      many = omega (arith, full, long, length-keys blobs);
    }

    -- ---- each child

    refusal_as : (made why : WalkRefused) → made ≡ why → IsRefusal R B root made → IsRefusal R B root why
    refusal_as made why same shows = subst (λ (w : WalkRefused). IsRefusal R B root w) same shows

    finished_by : (b : Bool) (child : Child) (len : ℕ) (why : WalkRefused)
        → (b ≡ false → IsUnsized R B root child.digest child.size len)
        → cond {A = Meeting} b (Ok None) (Err (SizeDiffers child.digest child.size len)) ≡ Err why
        → IsRefusal R B root why
    finished_by true child len why unsized is = absurd (let bad : ⊥ = cc in bad)
    finished_by false child len why unsized is =
        let same : SizeDiffers child.digest child.size len ≡ why = cc in
        refusal_as (SizeDiffers child.digest child.size len) why same (unsized refl)

    newest_lists : (kid : Child) → Contains o.manifest.children kid → ListsChild R o.digest kid
    newest_lists kid within = record { manifest = o.manifest; read = read.opened.0.read; within = within }

    one_below : (kid : Child) (k : ChildKind) → kid.kind ≡ k → Contains o.manifest.children kid
        → Reached R (suc o.level) root k kid.digest
    one_below kid k is within = (o.digest, read.opened.0.there, (kid, newest_lists kid within, is, refl))

    unsized_by : (kid : Child) (k : ChildKind) (len : ℕ) → kid.kind ≡ k → Contains o.manifest.children kid
        → HasLen R B k kid.digest len → (kid.size == len) ≡ false → IsUnsized R B root kid.digest kid.size len
    unsized_by kid k len is within known_len other = record {
      parent = o.digest;
      there = (o.level, read.opened.0.there);
      child = kid;
      listed = newest_lists kid within;
      digest_is = refl;
      size_is = refl;
      known_len = subst (λ (j : ChildKind). HasLen R B j kid.digest len) (sym is) known_len;
      other = eqb-false kid.size len other;
    }

    new_by : (b : Bool) (asked : Need) (why : WalkRefused) → (b ≡ false → AreTooMany R root)
        → cond {A = Meeting} b (Ok (Some asked)) (Err (TooMany (PAIR_LIMIT + 1))) ≡ Err why
        → IsRefusal R B root why
    new_by true asked why many is = absurd (let bad : ⊥ = cc in bad)
    new_by false asked why many is =
        let same : TooMany (PAIR_LIMIT + 1) ≡ why = cc in
        refusal_as (TooMany (PAIR_LIMIT + 1)) why same (refl, many refl)

    deep_by : (b : Bool) (d : Digest) (m : Meeting) (why : WalkRefused) → (b ≡ false → IsTooDeep R root d)
        → (m ≡ Err why → IsRefusal R B root why) → cond {A = Meeting} b m (Err (TooDeep d)) ≡ Err why
        → IsRefusal R B root why
    deep_by true d m why deep later is = later is
    deep_by false d m why deep later is =
        let same : TooDeep d ≡ why = cc in refusal_as (TooDeep d) why same (deep refl)

    blob_refused : (known_as : Option ℕ) (child : Child) (why : WalkRefused) → known child.digest blobs ≡ known_as
        → IsReachable R root kind.Blob child.digest → child.kind ≡ kind.Blob → Contains o.manifest.children child
        → blob_met known_as count child ≡ Err why → IsRefusal R B root why
    blob_refused (Some len) child why new at is within e =
        let f = known_all (IsBlobFrom R B root) child.digest blobs len read.blobs new in
        finished_by (child.size == len) child len why (λ other. unsized_by child kind.Blob len is within f.len other) e
    blob_refused None child why new at is within e =
        new_by (nat_lt count PAIR_LIMIT) (need.HasBlob child.digest) why
        (λ full. many_blob child.digest at new (ltb-false count PAIR_LIMIT full)) e

    manifest_refused : (known_as : Option Finished) (open_now : Bool) (level : ℕ) (child : Child) (why : WalkRefused)
        → known child.digest manifests ≡ known_as → is_open child.digest opened ≡ open_now
        → Reached R level root kind.Manifest child.digest → child.kind ≡ kind.Manifest
        → Contains o.manifest.children child
        → (is_open child.digest opened ≡ true → IsTooDeep R root child.digest)
        → manifest_met known_as open_now level count child ≡ Err why → IsRefusal R B root why
    manifest_refused (Some done) open_now level child why new shut at kin within loops is =
        let f = known_all (IsPutFrom R B root) child.digest manifests done read.manifests new in
        deep_by (nat_le (level + done.height) DEPTH_LIMIT) child.digest (finished_met child done.len) why
        (λ e. record { level = level; height = done.height; lowest = f.lowest; there = at; below = f.below; deep = leb-false (level + done.height) DEPTH_LIMIT e })
        (λ m. finished_by (child.size == done.len) child done.len why
        (λ other. unsized_by child kind.Manifest done.len kin within f.len other) m) is
    manifest_refused None true level child why new shut at kin within loops is =
        let same : TooDeep child.digest ≡ why = cc in refusal_as (TooDeep child.digest) why same (loops shut)
    manifest_refused None false level child why new shut at kin within loops is =
        deep_by (nat_le level DEPTH_LIMIT) child.digest (new_met count (need.Manifest child.digest)) why
        (λ e. let high : DEPTH_LIMIT < level = leb-false level DEPTH_LIMIT e in
        record { level = level; height = 0; lowest = child.digest; there = at; below = (refl, refl); deep = omega (arith, high) })
        (λ m. new_by (nat_lt count PAIR_LIMIT) (need.Manifest child.digest) why
        (λ e. many_manifest child.digest (level, at) shut new (ltb-false count PAIR_LIMIT e)) m) is

    -- from an open manifest down to the newest
    down : (d : Digest) (p : Opened) (rest : List Opened) → IsChain root (p ∷ rest)
        → AllByRecursion (IsOpenedFrom R B root) (p ∷ rest) → is_open d (p ∷ rest) ≡ true
        → (j : ℕ) × Reached R j d kind.Manifest p.digest
    down d p [] chain all is = elim (or_true (digest_eq p.digest d) false is) [
      | inl e ↦ (zero, (refl, digest_same p.digest d e))
      | inr e ↦ absurd (let bad : ⊥ = cc in bad)
    ]
    down d p (q ∷ rest) chain all is = elim (or_true (digest_eq p.digest d) (is_open d (q ∷ rest)) is) [
      | inl e ↦ (zero, (refl, digest_same p.digest d e))
      | inr later ↦
          let r = down d q rest chain.1 all.1 later in
          let child = chain.0.over in
          let listed : ListsChild R q.digest child.child = record {
            manifest = q.manifest;
            read = all.1.0.read;
            within = get_contains q.manifest.children q.next child.child child.listed;
          } in (suc r.0, (q.digest, r.1, (child.child, listed, child.kind, child.digest)))
    ]

    loops_deep : (kid : Child) → Contains o.manifest.children kid → kid.kind ≡ kind.Manifest
        → is_open kid.digest opened ≡ true → IsTooDeep R root kid.digest
    loops_deep kid within is open_now =
        let up = down kid.digest o below s.chain read.opened open_now in
        let turn : Reached R (suc up.0) kid.digest kind.Manifest kid.digest =
        (o.digest, up.1, (kid, newest_lists kid within, is, refl)) in
        let far = round kid.digest up.0 9 turn in record {
          level = suc o.level;
          height = far.0;
          lowest = kid.digest;
          there = one_below kid kind.Manifest is within;
          below = far.2;
          deep = omega (arith, far.1);
        }

    kind_refused : (k : ChildKind) (kid : Child) (why : WalkRefused) → kid.kind ≡ k
        → Contains o.manifest.children kid → kind_met opened blobs manifests k (o.level + 1) kid ≡ Err why
        → IsRefusal R B root why
    kind_refused kind.Foreign kid why is within e = absurd (let bad : ⊥ = cc in bad)
    kind_refused kind.Blob kid why is within e =
        blob_refused (known kid.digest blobs) kid why refl (suc o.level, one_below kid kind.Blob is within) is within e
    kind_refused kind.Manifest kid why is within e =
        let level : suc o.level ≡ o.level + 1 = omega arith in
        manifest_refused (known kid.digest manifests) (is_open kid.digest opened) (o.level + 1) kid why refl refl
        (subst (λ (n : ℕ). Reached R n root kind.Manifest kid.digest) level (one_below kid kind.Manifest is within))
        is within (loops_deep kid within is) e

    refused_at : (m : Meeting) (at : ℕ) (later : Result Next WalkRefused) (why : WalkRefused)
        → (m ≡ Err why → IsRefusal R B root why) → (later ≡ Err why → IsRefusal R B root why)
        → next_at m at later ≡ Err why → IsRefusal R B root why
    refused_at (Ok None) at later why here there is = there is
    refused_at (Ok (Some asked)) at later why here there is = absurd (let bad : ⊥ = cc in bad)
    refused_at (Err other) at later why here there is =
        here (let same : other ≡ why = cc in ap (λ (w : WalkRefused). Err w) same)

    refused_from : (meet : Child → Meeting) (d : Digest) (at : ℕ) (kids : List Child) (why : WalkRefused)
        → AllByRecursion (λ kid. meet kid ≡ Err why → IsRefusal R B root why) kids
        → next_from meet d at kids ≡ Err why → IsRefusal R B root why
    refused_from meet d at [] why all is = absurd (let bad : ⊥ = cc in bad)
    refused_from meet d at (kid ∷ kids) why all is =
        refused_at (meet kid) at (next_from meet d (at + 1) kids) why all.0
        (refused_from meet d (at + 1) kids why all.1) is

    -- a walk that finds no next need shows why
    pub next_refused : (why : WalkRefused) → next_in opened blobs manifests ≡ Err why → IsRefusal R B root why
    next_refused why is =
        refused_from (child_met opened blobs manifests (o.level + 1)) o.digest o.next (rest_of o) why
        (all_drop (λ kid. child_met opened blobs manifests (o.level + 1) kid ≡ Err why → IsRefusal R B root why) o.next o.manifest.children
        (each_contained (λ kid. child_met opened blobs manifests (o.level + 1) kid ≡ Err why → IsRefusal R B root why) o.manifest.children
        (λ kid within e. kind_refused kid.kind kid why refl within e))) is
