-- Laws of walks over manifests that were read, for any relation that says which were: what stays
-- true of all that is open and finished, what shows each refusal, and that readings may grow.
use Rattle.std.proofs.Common.{◌≡◌, inl, inr, ℕ, zero, suc, ◌+◌, Bool, true, false, cond, List, [], ◌∷◌, ◌++◌, length, refl, sym, ap, subst, arith}
use Rattle.std.proofs.lemmas.Bool.{eqb-true, eqb-false}
use Rattle.std.specs.Prelude.{Option, Some, None, Result, Ok, Err, ◌==◌, nat_le}
use Rattle.std.specs.List.{AllByRecursion}
use Rattle.hr_digest.specs.declared.digest.Digest.{Digest}
use Rattle.hr_digest.specs.Digest.{digest_of}
use Rattle.hr_manifest.specs.Manifest.{Parts}
use Rattle.hr_manifest.specs.declared.child.Child.{Child}
use Rattle.hr_manifest.specs.declared.child.ChildKind.{ChildKind}
use Rattle.hr_manifest.specs.declared.child.ChildKind.TheVariants as kind
use Rattle.hr_graph.specs.declared.need.Given.{Given}
use Rattle.hr_graph.specs.declared.need.Given.TheVariants as given
use Rattle.hr_graph.specs.declared.need.Need.{Need}
use Rattle.hr_graph.specs.declared.need.Need.TheVariants as need
use Rattle.hr_graph.specs.declared.need.WalkRefused.{WalkRefused}
use Rattle.hr_graph.specs.declared.need.WalkRefused.TheVariants.{SizeDiffers}
use Rattle.hr_graph.specs.declared.meeting.Next.{Next}
use Rattle.hr_graph.specs.declared.opened.Opened.{Opened}
use Rattle.hr_graph.specs.declared.opened.Finished.{Finished}
use Rattle.hr_graph.specs.Walk.{View, Answers, known, said_by, size_said}
use Rattle.hr_graph.specs.Meeting.{moved_to, next_in, settled, settled_by}
use Rattle.hr_graph.specs.Reached.{ListsChild, Reached, IsReachable, HasLen, IsUnsized, IsRefusal, IsOpenedFrom, IsBlobFrom, IsPutFrom, AreFromReadings, IsFromReading}
use Rattle.hr_graph.specs.Step.{with_root, with_opened, with_blob, with_put, begun, outcome, outcome_at, height_by, height_of, finished_of}
use Rattle.hr_graph.specs.Sound.{Asks, AsksBlob, IsSteady, IsSound, Lists}
use Rattle.hr_graph.proofs.AnsweredLemmas.{max_by}
use Rattle.hr_graph.proofs.ContainsLemmas.{each_contained, each_then, get_contains}
use Rattle.hr_graph.proofs.KnownLemmas.{known_all}
use Rattle.hr_graph.proofs.MeetingLemmas.{all_append}
use Rattle.hr_graph.proofs.ReachedLemmas.{joined, next_refused}
use Rattle.hr_graph.proofs.SoundLemmas.{parts, blob_steady, manifest_steady, put_steady, root_steady}

module _ (R : Digest → Parts → Type 0) (B : Digest → ℕ → Type 0) where
  -- A walk goes on over what was read, or what was read shows why it doesn't.
  pub record GoesOrShows (root : Digest) (result : Result View WalkRefused) : Type 0 where
    pub ok : (new : View) → result ≡ Ok new → AreFromReadings R B new × (new.root ≡ root)
    pub err : (why : WalkRefused) → result ≡ Err why → IsRefusal R B root why

  -- ---- the next need

  opened_moved : (root : Digest) (at : ℕ) (opened : List Opened) → AllByRecursion (IsOpenedFrom R B root) opened
      → AllByRecursion (IsOpenedFrom R B root) (moved_to at opened)
  opened_moved root at [] all = tt
  opened_moved root at (o ∷ below) all = (record { read = all.0.read; there = all.0.there }, all.1)

  settled_ok : (v new : View) (r : Result Next WalkRefused) → AreFromReadings R B v → settled_by v r ≡ Ok new
      → AreFromReadings R B new × (new.root ≡ v.root)
  settled_ok v new (Ok n) read is =
      let same : record v { opened = moved_to n.at v.opened; need = n.need } ≡ new = cc in
      subst (λ (w : View). AreFromReadings R B w × (w.root ≡ v.root)) same (
        record { opened = opened_moved v.root n.at v.opened read.opened; blobs = read.blobs; manifests = read.manifests },
        refl,
      )
  settled_ok v new (Err why) read is = cc

  settled_err : (v : View) (why : WalkRefused) (r : Result Next WalkRefused) → settled_by v r ≡ Err why → r ≡ Err why
  settled_err v why (Ok n) is = cc
  settled_err v why (Err other) is = let same : other ≡ why = cc in ap (λ (w : WalkRefused). Err w) same

  settled_shows : (root : Digest) (opened : List Opened) (blobs : List (Digest × ℕ))
      (manifests : List (Digest × Finished)) (x : Need) → IsSteady (parts root opened blobs manifests x)
      → AreFromReadings R B (parts root opened blobs manifests x) → (why : WalkRefused)
      → next_in opened blobs manifests ≡ Err why → IsRefusal R B root why
  settled_shows root [] blobs manifests x s read why is = absurd (let bad : ⊥ = cc in bad)
  settled_shows root (o ∷ below) blobs manifests x s read why is =
      next_refused R B root o below blobs manifests x s read why is

  settles : (v : View) → IsSteady v → AreFromReadings R B v → GoesOrShows v.root (settled v)
  settles v s read = record {
    ok = λ new is. settled_ok v new (next_in v.opened v.blobs v.manifests) read is;
    err = λ why is. settled_shows v.root v.opened v.blobs v.manifests v.need s read why
        (settled_err v why (next_in v.opened v.blobs v.manifests) is);
  }

  -- ---- each answer

  snoc : {X : Type 0} (P : X → Type 0) (xs : List X) (x : X) → AllByRecursion P xs → P x
      → AllByRecursion P (xs ++ x ∷ [])
  snoc P xs x all p = all_append P xs (x ∷ []) all (p, tt)

  asked_listed : (root : Digest) (o : Opened) (k : ChildKind) (d : Digest) → IsOpenedFrom R B root o
      → (a : Lists o k d) → ListsChild R o.digest a.child
  asked_listed root o k d f a = record {
    manifest = o.manifest;
    read = f.read;
    within = get_contains o.manifest.children o.next a.child a.listed;
  }

  asked_there : (root : Digest) (o : Opened) (k : ChildKind) (d : Digest) → IsOpenedFrom R B root o → Lists o k d
      → Reached R (suc o.level) root k d
  asked_there root o k d f a = (o.digest, f.there, (a.child, asked_listed root o k d f a, a.kind, a.digest_is))

  blob_there : (v : View) (d : Digest) → AsksBlob v.blobs v.manifests d v.opened → AreFromReadings R B v
      → IsReachable R v.root kind.Blob d
  blob_there v d a read = at v.opened a read.opened
    where
      at : (opened : List Opened) → AsksBlob v.blobs v.manifests d opened
          → AllByRecursion (IsOpenedFrom R B v.root) opened → IsReachable R v.root kind.Blob d
      at [] a all = absurd a
      at (o ∷ below) a all = (suc o.level, asked_there v.root o kind.Blob d all.0 a.0)

  takes_blob : (v : View) (d : Digest) (len : ℕ) → IsSteady v → AsksBlob v.blobs v.manifests d v.opened
      → AreFromReadings R B v → B d len → GoesOrShows v.root (settled (with_blob v d len))
  takes_blob v d len s a read said =
      settles (with_blob v d len) (blob_steady v d len s a) (record {
        opened = read.opened;
        blobs = snoc (IsBlobFrom R B v.root) v.blobs (d, len) read.blobs (record { there = blob_there v d a read; len = said });
        manifests = read.manifests;
      })

  goes_if : (b : Bool) (root : Digest) (r : Result View WalkRefused) (d : Digest) (said got : ℕ)
      → (b ≡ true → GoesOrShows root r) → (b ≡ false → IsUnsized R B root d said got)
      → GoesOrShows root (cond b r (Err (SizeDiffers d said got)))
  goes_if true root r d said got goes unsized = goes refl
  goes_if false root r d said got goes unsized = record {
    ok = λ new is. cc;
    err = λ why is.
        let same : SizeDiffers d said got ≡ why = cc in
        subst (λ (w : WalkRefused). IsRefusal R B root w) same (unsized refl);
  }

  asked_unsized : (root : Digest) (o : Opened) (d : Digest) (m : Parts) → IsOpenedFrom R B root o
      → (a : Lists o kind.Manifest d) → R d m → (size_said o == length m.bytes) ≡ false
      → IsUnsized R B root d (size_said o) (length m.bytes)
  asked_unsized root o d m f a was other = record {
    parent = o.digest;
    there = (o.level, f.there);
    child = a.child;
    listed = asked_listed root o kind.Manifest d f a;
    digest_is = a.digest_is;
    size_is = sym (ap said_by a.listed);
    known_len = subst (λ (j : ChildKind). HasLen R B j d (length m.bytes)) (sym a.kind) (m, was, refl);
    other = eqb-false (size_said o) (length m.bytes) other;
  }

  -- ---- something stands as far below as a height says

  kid_high : (d root : Digest) (manifests : List (Digest × Finished)) → AllByRecursion (IsPutFrom R B root) manifests
      → (k : ChildKind) (kid : Child) → kid.kind ≡ k → ListsChild R d kid → (f : Option Finished)
      → known kid.digest manifests ≡ f → (low : Digest) × Reached R (height_by k f) d kind.Manifest low
  kid_high d root manifests all kind.Manifest kid is listed (Some done) e =
      let f = known_all (IsPutFrom R B root) kid.digest manifests done all e in
      let one : Reached R 1 d kind.Manifest kid.digest = (d, (refl, refl), (kid, listed, is, refl)) in
      let j = joined R 1 done.height d kid.digest kind.Manifest f.lowest one f.below in
      let same : j.0 ≡ done.height + 1 = omega (arith, j.1) in
      (f.lowest, subst (λ (n : ℕ). Reached R n d kind.Manifest f.lowest) same j.2)
  kid_high d root manifests all kind.Manifest kid is listed None e = (d, (refl, refl))
  kid_high d root manifests all kind.Blob kid is listed f e = (d, (refl, refl))
  kid_high d root manifests all kind.Foreign kid is listed f e = (d, (refl, refl))

  high : (d root : Digest) (manifests : List (Digest × Finished)) (kids : List Child)
      → AllByRecursion (IsPutFrom R B root) manifests → AllByRecursion (ListsChild R d) kids
      → (low : Digest) × Reached R (height_of manifests kids) d kind.Manifest low
  high d root manifests [] all listed = (d, (refl, refl))
  high d root manifests (kid ∷ kids) all listed =
      let first = height_by kid.kind (known kid.digest manifests) in
      let later = height_of manifests kids in
      elim (max_by (nat_le first later) first later refl) [
        | inl e ↦
            let h = kid_high d root manifests all kid.kind kid refl listed.0 (known kid.digest manifests) refl in
            (h.0, subst (λ (n : ℕ). Reached R n d kind.Manifest h.0) (sym e) h.1)
        | inr e ↦
            let h = high d root manifests kids all listed.1 in
            (h.0, subst (λ (n : ℕ). Reached R n d kind.Manifest h.0) (sym e) h.1)
      ]

  -- ---- all together

  goes_at : (root : Digest) (opened : List Opened) (blobs : List (Digest × ℕ)) (manifests : List (Digest × Finished))
      (x : Need) (g : Given) → IsSteady (parts root opened blobs manifests x) → Asks blobs manifests x opened
      → AreFromReadings R B (parts root opened blobs manifests x) → Answers x g → IsFromReading R B x g
      → GoesOrShows root (outcome_at (parts root opened blobs manifests x) x g)
  goes_at root [] blobs manifests (need.Manifest d) (given.Manifest m) s a read answers gives = absurd a
  goes_at root (o ∷ below) blobs manifests (need.Manifest d) (given.Manifest m) s a read answers gives =
      let v : View = parts root (o ∷ below) blobs manifests (need.Manifest d) in
      let level : suc o.level ≡ o.level + 1 = omega arith in
      goes_if (size_said o == length m.bytes) root (settled (with_opened v d m o)) d (size_said o) (length m.bytes)
      (λ e. settles (with_opened v d m o)
      (manifest_steady root o below blobs manifests (need.Manifest d) d m s a answers (eqb-true (size_said o) (length m.bytes) e)) (record {
        opened = (
          record {
            read = gives;
            there = subst (λ (n : ℕ). Reached R n root kind.Manifest d) level (asked_there root o kind.Manifest d read.opened.0 a.0);
          },
          read.opened,
        );
        blobs = read.blobs;
        manifests = read.manifests;
      }))
      (λ e. asked_unsized root o d m read.opened.0 a.0 gives e)
  goes_at root opened blobs manifests (need.HasBlob d) (given.Found (Some len)) s a read answers gives =
      takes_blob (parts root opened blobs manifests (need.HasBlob d)) d len s a read gives
  goes_at root opened blobs manifests (need.HasBlob d) (given.Found None) s a read answers gives = record {
    ok = λ new is.
        let same : parts root opened blobs manifests (need.CopyBlob d) ≡ new = cc in
        subst (λ (w : View). AreFromReadings R B w × (w.root ≡ root)) same
        (record { opened = read.opened; blobs = read.blobs; manifests = read.manifests }, refl);
    err = λ why is. absurd (let bad : ⊥ = cc in bad);
  }
  goes_at root opened blobs manifests (need.CopyBlob d) (given.Copied len) s a read answers gives =
      takes_blob (parts root opened blobs manifests (need.CopyBlob d)) d len s a read gives
  goes_at root [] blobs manifests (need.PutManifest d) given.Put s a read answers gives = absurd a
  goes_at root (o ∷ below) blobs manifests (need.PutManifest d) given.Put s a read answers gives =
      let v : View = parts root (o ∷ below) blobs manifests (need.PutManifest d) in
      let f = read.opened.0 in
      let h = high o.digest root manifests o.manifest.children read.manifests
      (each_contained (ListsChild R o.digest) o.manifest.children
      (λ kid within. record { manifest = o.manifest; read = f.read; within = within })) in
      settles (with_put v o below) (put_steady root o below blobs manifests (need.PutManifest d) s a.1) (record {
        opened = read.opened.1;
        blobs = read.blobs;
        manifests = snoc (IsPutFrom R B root) manifests (o.digest, finished_of manifests o) read.manifests
            (record { there = (o.level, f.there); len = (o.manifest, f.read, refl); lowest = h.0; below = h.1 });
      })
  goes_at root opened blobs manifests x g s a read answers gives = absurd answers

  -- An answer that is what was read is taken over readings, or refused with its reason shown.
  pub goes_or_shows : (v : View) (g : Given) → IsSound v → AreFromReadings R B v → Answers v.need g
      → IsFromReading R B v.need g → GoesOrShows v.root (outcome v g)
  goes_or_shows v g s read answers gives =
      goes_at v.root v.opened v.blobs v.manifests v.need g s.steady s.asks read answers gives

  -- So is the manifest with which a walk begins.
  pub begins_or_shows : (root : Digest) (m : Parts) → digest_of m.bytes ≡ root → R root m
      → GoesOrShows root (begun root m)
  begins_or_shows root m own was =
      settles (with_root root m) (root_steady root m own) (record {
        opened = (record { read = was; there = (refl, refl) }, tt);
        blobs = tt;
        manifests = tt;
      })

  -- What a walk asks for is a child that is reached.
  pub blob_is_reached : (v : View) (d : Digest) → AsksBlob v.blobs v.manifests d v.opened → AreFromReadings R B v
      → IsReachable R v.root kind.Blob d
  blob_is_reached v d a read = blob_there v d a read

-- Readings may grow.
module _ (R S : Digest → Parts → Type 0) (B D : Digest → ℕ → Type 0)
    (more : (d : Digest) (m : Parts) → R d m → S d m) (longer : (d : Digest) (n : ℕ) → B d n → D d n) where
  listed_more : (d : Digest) (kid : Child) → ListsChild R d kid → ListsChild S d kid
  listed_more d kid l = record { manifest = l.manifest; read = more d l.manifest l.read; within = l.within }

  -- What was reached stays so.
  pub reached_more : (l : ℕ) (root : Digest) (k : ChildKind) (d : Digest) → Reached R l root k d → Reached S l root k d
  reached_more zero root k d at = at
  reached_more (suc l) root k d at =
      (at.0, reached_more l root kind.Manifest at.0 at.1, (at.2.0, listed_more at.0 at.2.0 at.2.1, at.2.2, at.2.3))

  -- What is from readings stays so.
  pub read_more : (v : View) → AreFromReadings R B v → AreFromReadings S D v
  read_more v read = record {
    opened = each_then {P = IsOpenedFrom R B v.root} {Q = IsOpenedFrom S D v.root}
        (λ o f. record {
          read = more o.digest o.manifest f.read;
          there = reached_more o.level v.root kind.Manifest o.digest f.there;
        }) v.opened read.opened;
    blobs = each_then {P = IsBlobFrom R B v.root} {Q = IsBlobFrom S D v.root}
        (λ e f. record {
          there = (f.there.0, reached_more f.there.0 v.root kind.Blob e.0 f.there.1);
          len = longer e.0 e.1 f.len;
        }) v.blobs read.blobs;
    manifests = each_then {P = IsPutFrom R B v.root} {Q = IsPutFrom S D v.root}
        (λ e f. record {
          there = (f.there.0, reached_more f.there.0 v.root kind.Manifest e.0 f.there.1);
          len = (f.len.0, more e.0 f.len.0 f.len.1, f.len.2);
          lowest = f.lowest;
          below = reached_more e.1.height e.0 kind.Manifest f.lowest f.below;
        }) v.manifests read.manifests;
  }
