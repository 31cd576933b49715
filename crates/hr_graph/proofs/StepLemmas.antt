-- The steps of a walk over its fields.
use Rattle.std.proofs.Common.{◌≡◌, ℕ, ◌+◌, ◌-◌, ◌<◌, true, false, cond, List, [], ◌∷◌, ◌++◌, length, take, reverse, get_or, ◌⊎◌, inl, inr, refl, sym, ◌∙◌, ap, subst, arith, length-append}
use Rattle.std.specs.Prelude.{Option, Some, None, Result, Ok, Err, IsSome, ◌↔◌, ◌==◌}
use Rattle.std.proofs.lemmas.Option.{slice_get_within, get_or_from_slice_get}
use Rattle.std.proofs.lemmas.Bool.{eq-eqb, ne_eqb}
use Rattle.std.specs.Option.{option_to_list}
use Rattle.indexmap.specs.IndexMap.{insert_entry}
use Rattle.hr_digest.specs.declared.digest.Digest.{Digest}
use Rattle.hr_digest.specs.Digest.{digest_of}
use Rattle.hr_digest.specs.Order.{digest_eq}
use Rattle.hr_manifest.specs.Manifest.{Parts}
use Rattle.hr_manifest.specs.declared.child.Child.{Child}
use Rattle.hr_graph.specs.declared.need.Need.{Need}
use Rattle.hr_graph.specs.declared.need.Need.TheVariants as need
use Rattle.hr_graph.specs.declared.need.WalkRefused.{WalkRefused}
use Rattle.hr_graph.specs.declared.need.WalkRefused.TheVariants.{SizeDiffers}
use Rattle.hr_graph.specs.declared.meeting.Next.{Next}
use Rattle.hr_graph.specs.declared.opened.Opened.{Opened}
use Rattle.hr_graph.specs.declared.opened.Finished.{Finished}
use Rattle.hr_graph.specs.Walk.{View, known, said_by, size_said}
use Rattle.hr_graph.specs.Fields.{view_of}
use Rattle.hr_graph.specs.Meeting.{next_in, moved_to, settled_by, settled}
use Rattle.hr_graph.specs.Step.{with_root, with_opened, with_blob, with_put, after_manifest, after_put, finished_of, height_of}
use Rattle.hr_graph.specs.Sound.{IsPlaced, Asks, AsksBlob, AsksManifest, IsReady, IsSteady, IsSound}
use Rattle.hr_graph.proofs.KnownLemmas.{absent_at}
use Rattle.hr_graph.proofs.ListLemmas.{reverse_last, reverse_snoc}
use Rattle.hr_graph.proofs.SoundLemmas.{settle_sound, blob_steady, manifest_steady, put_steady, root_steady}

-- a walk goes to its next need, or refuses
module _ (w : View) (r : Result Next WalkRefused) (is : r ≡ next_in w.opened w.blobs w.manifests) where
  pub settle_ok : (n : Next) (opened : List Opened) → r ≡ Ok n → reverse opened ≡ moved_to n.at w.opened
      → settled w ≡ Ok (view_of w.root opened w.blobs w.manifests n.need)
  settle_ok n opened ok moved =
      ap (settled_by w) (sym is ∙ ok)
      ∙ ap (λ l. Ok (record w { opened = l; need = n.need })) (sym moved)

  pub settle_keeps : (n : Next) (opened : List Opened) → IsSteady w → r ≡ Ok n
      → reverse opened ≡ moved_to n.at w.opened
      → IsSound (view_of w.root opened w.blobs w.manifests n.need)
  settle_keeps n opened s ok moved =
      let P : List Opened → Type 0 = λ l. IsSound (record w { opened = l; need = n.need }) in
      subst P (sym moved) (settle_sound w n s (sym is ∙ ok))

  pub settle_err : (why : WalkRefused) → r ≡ Err why → settled w ≡ Err why
  settle_err why err = ap (settled_by w) (sym is ∙ err)

-- a new entry comes last
pub insert_absent : {X : Type 0} (k : Digest) (es : List (Digest × X)) (v : X) → known k es ≡ None
    → insert_entry digest_eq es k v ≡ es ++ (k, v) ∷ []
insert_absent k [] v h = refl
insert_absent k (e ∷ es) v h =
    let a = absent_at (digest_eq k e.0) e.1 (known k es) h in
    ap (λ b. cond b ((e.0, v) ∷ es) (e ∷ insert_entry digest_eq es k v)) a.0
    ∙ ap (λ l. e ∷ l) (insert_absent k es v a.1)

-- what is taken from the end is what was put there
tails : {A : Type 0} (a b : A) (xs ys : List A) → a ∷ xs ≡ b ∷ ys → xs ≡ ys
tails a b xs ys e = cc

front_same : {A : Type 0} (xs ys : List A) (a b : A) → xs ++ a ∷ [] ≡ ys ++ b ∷ [] → xs ≡ ys
front_same [] [] a b e = refl
front_same [] (y ∷ []) a b e = absurd (let no : ⊥ = cc in no)
front_same [] (y ∷ z ∷ ys) a b e = absurd (let no : ⊥ = cc in no)
front_same (x ∷ []) [] a b e = absurd (let no : ⊥ = cc in no)
front_same (x ∷ z ∷ xs) [] a b e = absurd (let no : ⊥ = cc in no)
front_same (x ∷ xs) (y ∷ ys) a b e =
    let head : x ≡ y = cc in
    let rest : xs ≡ ys = front_same xs ys a b (tails x y (xs ++ a ∷ []) (ys ++ b ∷ []) e) in
    cc

pub pop_undoes : {A : Type 0} (o : Option A) (xs ys all : List A) (a : A) → all ≡ ys ++ a ∷ []
    → all ≡ xs ++ option_to_list o → (IsSome o ↔ (0 < length all)) → xs ≡ ys
pop_undoes (Some b) xs ys all a put taken some = front_same xs ys b a (sym taken ∙ put)
pop_undoes {A} None xs ys all a put taken some =
    let full : 0 < length all = omega (arith, ap length put, length-append ys (a ∷ [])) in
    let no : IsSome {T = A} None = some.1 full in
    absurd (let never : ⊥ = cc in never)

-- a blob is finished
pub asks_blob : (v : View) (d : Digest) → (v.need ≡ need.HasBlob d) ⊎ (v.need ≡ need.CopyBlob d)
    → IsSound v → AsksBlob v.blobs v.manifests d v.opened
asks_blob v d (inl e) s =
    let P : Need → Type 0 = λ n. Asks v.blobs v.manifests n v.opened in subst P e s.asks
asks_blob v d (inr e) s =
    let P : Need → Type 0 = λ n. Asks v.blobs v.manifests n v.opened in subst P e s.asks

pub blob_new : (blobs : List (Digest × ℕ)) (manifests : List (Digest × Finished)) (d : Digest) (opened : List Opened)
    → AsksBlob blobs manifests d opened → known d blobs ≡ None
blob_new blobs manifests d [] h = absurd h
blob_new blobs manifests d (o ∷ os) h = h.1

-- the fields of a walk to which a blob was added
module _ (root : Digest) (opened : List Opened) (blobs : List (Digest × ℕ)) (manifests : List (Digest × Finished))
    (asked : Need) (v : View) (is : view_of root opened blobs manifests asked ≡ v) (d : Digest) (len : ℕ)
    (asks : (v.need ≡ need.HasBlob d) ⊎ (v.need ≡ need.CopyBlob d))
    (sound : IsSound (view_of root opened blobs manifests asked)) where
  sound_v : IsSound v
  sound_v = let P : View → Type 0 = IsSound in subst P is sound

  new_v : known d v.blobs ≡ None
  new_v = blob_new v.blobs v.manifests d v.opened (asks_blob v d asks sound_v)

  module _ (more : List (Digest × ℕ)) (put : more ≡ insert_entry digest_eq blobs d len)
      (seen : List Opened) (sees : seen ≡ opened)
      (r : Result Next WalkRefused) (by : r ≡ next_in (reverse seen) more manifests) where
    more_is : more ≡ v.blobs ++ (d, len) ∷ []
    more_is = put ∙ ap (λ (x : View). insert_entry digest_eq x.blobs d len) is ∙ insert_absent d v.blobs len new_v

    by_is : r ≡ next_in (with_blob v d len).opened (with_blob v d len).blobs (with_blob v d len).manifests
    by_is =
        by ∙ ap (λ l. next_in (reverse l) more manifests) sees
        ∙ ap (λ l. next_in (reverse opened) l manifests) more_is
        ∙ ap (λ (x : View). next_in x.opened (v.blobs ++ (d, len) ∷ []) x.manifests) is

    view_is : (n : Next) (moved : List Opened)
        → view_of v.root moved (v.blobs ++ (d, len) ∷ []) v.manifests n.need ≡ view_of root moved more manifests n.need
    view_is n moved =
        ap (λ l. view_of v.root moved l v.manifests n.need) (sym more_is)
        ∙ ap (λ (x : View). view_of x.root moved more x.manifests n.need) (sym is)

    pub blob_ok : (n : Next) (moved : List Opened) → r ≡ Ok n → reverse moved ≡ moved_to n.at (reverse opened)
        → settled (with_blob v d len) ≡ Ok (view_of root moved more manifests n.need)
    blob_ok n moved ok to =
        settle_ok (with_blob v d len) r by_is n moved ok (to ∙ ap (λ (x : View). moved_to n.at x.opened) is)
        ∙ ap Ok (view_is n moved)

    pub blob_keeps : (n : Next) (moved : List Opened) → r ≡ Ok n → reverse moved ≡ moved_to n.at (reverse opened)
        → IsSound (view_of root moved more manifests n.need)
    blob_keeps n moved ok to =
        let P : View → Type 0 = IsSound in
        subst P (view_is n moved)
        (settle_keeps (with_blob v d len) r by_is n moved (blob_steady v d len sound_v.steady (asks_blob v d asks sound_v))
        ok (to ∙ ap (λ (x : View). moved_to n.at x.opened) is))

    pub blob_err : (why : WalkRefused) → r ≡ Err why → settled (with_blob v d len) ≡ Err why
    blob_err why err = settle_err (with_blob v d len) r by_is why err

    -- where the walk is refused, the blob is taken out again
    pub blob_back : (o : Option (Digest × ℕ)) (less : List (Digest × ℕ)) → more ≡ less ++ option_to_list o
        → (IsSome o ↔ (0 < length more)) → less ≡ blobs
    blob_back o less taken some =
        pop_undoes o less v.blobs more (d, len) more_is taken some ∙ ap (λ (x : View). x.blobs) (sym is)

-- the newest open manifest is the last of the vector
not_empty : (blobs : List (Digest × ℕ)) (manifests : List (Digest × Finished)) (asked : Need) (opened : List Opened)
    → (asked ≡ need.Done → ⊥) → Asks blobs manifests asked (reverse opened) → 0 < length opened
not_empty blobs manifests asked [] more h = absurd (none asked more h)
  where
    none : (asked : Need) → (asked ≡ need.Done → ⊥) → Asks blobs manifests asked [] → ⊥
    none (need.Manifest d) more h = h
    none (need.HasBlob d) more h = h
    none (need.CopyBlob d) more h = h
    none (need.PutManifest d) more h = h
    none need.Done more h = more refl
not_empty blobs manifests asked (x ∷ xs) more h = omega arith

module _ (root : Digest) (opened : List Opened) (blobs : List (Digest × ℕ)) (manifests : List (Digest × Finished))
    (asked : Need) (v : View) (is : view_of root opened blobs manifests asked ≡ v)
    (sound : IsSound (view_of root opened blobs manifests asked)) (more : asked ≡ need.Done → ⊥)
    (o : Opened) (n : ℕ) (len : n ≡ length opened) (last : o ≡ get_or opened (n - 1) o) where
  abbrev below : List Opened
  below = reverse (take (length opened - 1) opened)

  pub top : reverse opened ≡ o ∷ below
  top =
      let e : get_or opened (length opened - 1) o ≡ o =
      ap (λ k. get_or opened (k - 1) o) (sym len) ∙ sym last in
      reverse_last opened o (not_empty blobs manifests asked opened more sound.asks) e

  pub top_is : record { root = root; opened = o ∷ below; blobs = blobs; manifests = manifests; need = asked } ≡ v
  top_is =
      let f : List Opened → View = λ l. record { root = root; opened = l; blobs = blobs; manifests = manifests; need = asked } in
      ap f (sym top) ∙ is

  pub sound_top : IsSound (record { root = root; opened = o ∷ below; blobs = blobs; manifests = manifests; need = asked })
  sound_top =
      let P : List Opened → Type 0 = λ l. IsSound (record { root = root; opened = l; blobs = blobs; manifests = manifests; need = asked }) in
      subst P top sound

-- a manifest is opened
module _ (root : Digest) (opened : List Opened) (blobs : List (Digest × ℕ)) (manifests : List (Digest × Finished))
    (asked : Need) (v : View) (is : view_of root opened blobs manifests asked ≡ v)
    (sound : IsSound (view_of root opened blobs manifests asked))
    (o : Opened) (n : ℕ) (len : n ≡ length opened) (last : o ≡ get_or opened (n - 1) o)
    (d : Digest) (m : Parts) (asks : v.need ≡ need.Manifest d) (children : List Child) (listed : children ≡ o.manifest.children) where
  asked_is : asked ≡ need.Manifest d
  asked_is = ap (λ (x : View). x.need) is ∙ asks

  more_asked : asked ≡ need.Done → ⊥
  more_asked e = let no : ⊥ = cc asked_is in no

  abbrev rest : List Opened
  rest = reverse (take (length opened - 1) opened)

  abbrev old : View
  old = record { root = root; opened = o ∷ rest; blobs = blobs; manifests = manifests; need = asked }

  old_is : old ≡ v
  old_is = top_is root opened blobs manifests asked v is sound more_asked o n len last

  old_sound : IsSound old
  old_sound = sound_top root opened blobs manifests asked v is sound more_asked o n len last

  old_asks : AsksManifest blobs manifests d (o ∷ rest)
  old_asks =
      let P : Need → Type 0 = λ x. Asks blobs manifests x (o ∷ rest) in
      subst P asked_is old_sound.asks

  pub in_bounds : o.next < length children
  in_bounds = rw listed (slice_get_within o.manifest.children o.next old_asks.0.child old_asks.0.listed)

  said_is : (x : Child) → size_said o ≡ (get_or children o.next x).size
  said_is x =
      ap said_by old_asks.0.listed
      ∙ ap (λ (c : Child). c.size) (sym (ap (λ l. get_or l o.next x) listed
      ∙ get_or_from_slice_get o.manifest.children o.next old_asks.0.child x old_asks.0.listed))

  module _ (x : Child) (bytes : List ℕ) (are : bytes ≡ m.bytes) where
    pub size_refused : ((get_or children o.next x).size ≡ length bytes → ⊥)
        → after_manifest v d m v.opened ≡ Err (SizeDiffers d (get_or children o.next x).size (length bytes))
    size_refused differs =
        let P : View → Type 0 =
        λ y. after_manifest y d m y.opened ≡ Err (SizeDiffers d (get_or children o.next x).size (length bytes)) in
        let e : size_said o ≡ (get_or children o.next x).size = said_is x in
        let f : length m.bytes ≡ length bytes = ap length (sym are) in
        let b : (size_said o == length m.bytes) ≡ false =
        ne_eqb (size_said o) (length m.bytes) (λ h. differs (sym e ∙ h ∙ f)) in
        subst P old_is
        (ap (λ c. cond c (settled (with_opened old d m o)) (Err (SizeDiffers d (size_said o) (length m.bytes)))) b
        ∙ ap (λ k. Err (SizeDiffers d k (length m.bytes))) e
        ∙ ap (λ k. Err (SizeDiffers d (get_or children o.next x).size k)) f)

    module _ (same : (get_or children o.next x).size ≡ length bytes) where
      size_is : size_said o ≡ length m.bytes
      size_is = said_is x ∙ same ∙ ap length are

      -- what the size lets through
      through : (z : Result View WalkRefused) → settled (with_opened old d m o) ≡ z → after_manifest v d m v.opened ≡ z
      through z h =
          let P : View → Type 0 = λ y. after_manifest y d m y.opened ≡ z in
          let b : (size_said o == length m.bytes) ≡ true = eq-eqb (size_said o) (length m.bytes) size_is in
          subst P old_is
          (ap (λ c. cond c (settled (with_opened old d m o)) (Err (SizeDiffers d (size_said o) (length m.bytes)))) b ∙ h)

      module _ (fits : digest_of m.bytes ≡ d) (seen : List Opened)
          (sees : seen ≡ opened ++ record { digest = d; manifest = m; level = o.level + 1; next = 0 } ∷ []) where
        new_top : reverse seen ≡ record { digest = d; manifest = m; level = o.level + 1; next = 0 } ∷ o ∷ rest
        new_top =
            ap reverse sees ∙ reverse_snoc opened (record { digest = d; manifest = m; level = o.level + 1; next = 0 })
            ∙ ap (λ l. record { digest = d; manifest = m; level = o.level + 1; next = 0 } ∷ l)
            (top root opened blobs manifests asked v is sound more_asked o n len last)

        pub new_placed : IsPlaced (reverse seen)
        new_placed =
            let P : List Opened → Type 0 = IsPlaced in
            subst P (sym new_top) (omega arith, old_asks.3)

        module _ (r : Result Next WalkRefused) (by : r ≡ next_in (reverse seen) blobs manifests) where
          by_new : r ≡ next_in (with_opened old d m o).opened blobs manifests
          by_new = by ∙ ap (λ l. next_in l blobs manifests) new_top

          pub open_ok : (k : Next) (moved : List Opened) → r ≡ Ok k → reverse moved ≡ moved_to k.at (reverse seen)
              → after_manifest v d m v.opened ≡ Ok (view_of root moved blobs manifests k.need)
          open_ok k moved ok to =
              through (Ok (view_of root moved blobs manifests k.need))
              (settle_ok (with_opened old d m o) r by_new k moved ok (to ∙ ap (moved_to k.at) new_top))

          pub open_keeps : (k : Next) (moved : List Opened) → r ≡ Ok k → reverse moved ≡ moved_to k.at (reverse seen)
              → IsSound (view_of root moved blobs manifests k.need)
          open_keeps k moved ok to =
              settle_keeps (with_opened old d m o) r by_new k moved
              (manifest_steady root o rest blobs manifests asked d m old_sound.steady old_asks fits size_is)
              ok (to ∙ ap (moved_to k.at) new_top)

          pub open_err : (why : WalkRefused) → r ≡ Err why → after_manifest v d m v.opened ≡ Err why
          open_err why err = through (Err why) (settle_err (with_opened old d m o) r by_new why err)

-- a walk begins
pub begin_keeps : (root : Digest) (m : Parts) → digest_of m.bytes ≡ root → (seen : List Opened)
    → seen ≡ record { digest = root; manifest = m; level = 0; next = 0 } ∷ []
    → (blobs : List (Digest × ℕ)) (manifests : List (Digest × Finished)) → blobs ≡ [] → manifests ≡ []
    → (r : Result Next WalkRefused) → r ≡ next_in (reverse seen) blobs manifests
    → (k : Next) (moved : List Opened) → r ≡ Ok k → reverse moved ≡ moved_to k.at (reverse seen)
    → IsSound (view_of root moved blobs manifests k.need)
begin_keeps root m is seen sees blobs manifests no_blobs no_manifests r by k moved ok to =
    let w : View = with_root root m in
    let same : next_in (reverse seen) blobs manifests ≡ next_in w.opened w.blobs w.manifests =
    ap (λ l. next_in (reverse l) blobs manifests) sees
    ∙ ap (λ l. next_in w.opened l manifests) no_blobs
    ∙ ap (λ l. next_in w.opened w.blobs l) no_manifests in
    let s = settle_keeps w r (by ∙ same) k moved (root_steady root m is) ok
    (to ∙ ap (λ l. moved_to k.at (reverse l)) sees) in
    let P : List (Digest × ℕ) → Type 0 = λ l. IsSound (view_of root moved l [] k.need) in
    let Q : List (Digest × Finished) → Type 0 = λ l. IsSound (view_of root moved blobs l k.need) in
    subst Q (sym no_manifests) (subst P (sym no_blobs) s)

-- the newest open manifest is put
module _ (root : Digest) (opened : List Opened) (blobs : List (Digest × ℕ)) (manifests : List (Digest × Finished))
    (asked : Need) (v : View) (is : view_of root opened blobs manifests asked ≡ v)
    (sound : IsSound (view_of root opened blobs manifests asked))
    (o : Opened) (n : ℕ) (len : n ≡ length opened) (last : o ≡ get_or opened (n - 1) o)
    (asks : (d : Digest) × (v.need ≡ need.PutManifest d)) where
  put_asked : asked ≡ need.PutManifest asks.0
  put_asked = ap (λ (x : View). x.need) is ∙ asks.1

  put_more : asked ≡ need.Done → ⊥
  put_more e = let no : ⊥ = cc put_asked in no

  abbrev lower : List Opened
  lower = reverse (take (length opened - 1) opened)

  abbrev full : View
  full = record { root = root; opened = o ∷ lower; blobs = blobs; manifests = manifests; need = asked }

  full_is : full ≡ v
  full_is = top_is root opened blobs manifests asked v is sound put_more o n len last

  full_sound : IsSound full
  full_sound = sound_top root opened blobs manifests asked v is sound put_more o n len last

  put_ready : IsReady asks.0 (o ∷ lower)
  put_ready =
      let P : Need → Type 0 = λ x. Asks blobs manifests x (o ∷ lower) in
      subst P put_asked full_sound.asks

  module _ (bytes : List ℕ) (are : bytes ≡ o.manifest.bytes) (children : List Child) (list : children ≡ o.manifest.children)
      (high : ℕ) (height : high ≡ height_of manifests children)
      (more : List (Digest × Finished))
      (put : more ≡ insert_entry digest_eq manifests o.digest (record { len = length bytes; height = high }))
      (seen : List Opened) (sees : seen ≡ take (n - 1) opened) where
    abbrev after : View
    after = with_put full o lower

    more_put : more ≡ after.manifests
    more_put =
        let e : record { len = length bytes; height = high } ≡ finished_of manifests o =
        ap (λ b. record { len = length b; height = high }) are
        ∙ ap (λ h. record { len = length o.manifest.bytes; height = h }) (height ∙ ap (height_of manifests) list) in
        put ∙ ap (insert_entry digest_eq manifests o.digest) e
        ∙ insert_absent o.digest manifests (finished_of manifests o) full_sound.steady.not_put.0

    seen_is : reverse seen ≡ lower
    seen_is = ap reverse sees ∙ ap (λ k. reverse (take (k - 1) opened)) len

    module _ (r : Result Next WalkRefused) (by : r ≡ next_in (reverse seen) blobs more) where
      by_put : r ≡ next_in lower blobs after.manifests
      by_put = by ∙ ap (λ l. next_in l blobs more) seen_is ∙ ap (λ l. next_in lower blobs l) more_put

      through_put : (z : Result View WalkRefused) → settled after ≡ z → after_put v v.opened ≡ z
      through_put z h =
          let P : View → Type 0 = λ y. after_put y y.opened ≡ z in
          subst P full_is h

      pub put_ok : (k : Next) (moved : List Opened) → r ≡ Ok k → reverse moved ≡ moved_to k.at (reverse seen)
          → after_put v v.opened ≡ Ok (view_of root moved blobs more k.need)
      put_ok k moved ok to =
          through_put (Ok (view_of root moved blobs more k.need))
          (settle_ok after r by_put k moved ok (to ∙ ap (moved_to k.at) seen_is)
          ∙ ap (λ l. Ok (view_of root moved blobs l k.need)) (sym more_put))

      pub put_keeps : (k : Next) (moved : List Opened) → r ≡ Ok k → reverse moved ≡ moved_to k.at (reverse seen)
          → IsSound (view_of root moved blobs more k.need)
      put_keeps k moved ok to =
          let P : List (Digest × Finished) → Type 0 = λ l. IsSound (view_of root moved blobs l k.need) in
          subst P (sym more_put)
          (settle_keeps after r by_put k moved
          (put_steady root o lower blobs manifests asked full_sound.steady put_ready.1)
          ok (to ∙ ap (moved_to k.at) seen_is))

      pub put_err : (why : WalkRefused) → r ≡ Err why → after_put v v.opened ≡ Err why
      put_err why err = through_put (Err why) (settle_err after r by_put why err)

      pub put_back : (e : Option (Digest × Finished)) (less : List (Digest × Finished)) → more ≡ less ++ option_to_list e
          → (IsSome e ↔ (0 < length more)) → less ≡ manifests
      put_back e less taken some =
          pop_undoes e less manifests more (o.digest, finished_of manifests o) more_put taken some
