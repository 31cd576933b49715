-- What shows a cause shows it with each entry more, and as its connections are used on.
use Rattle.std.proofs.Common.{◌≡◌, inl, inr, refl, sym, ap, subst, ◌∙◌, ℕ, ◌≤◌, List, ◌∷◌, length, arith}
use Rattle.std.specs.Prelude.{Option, Some, None, IfSome, Contains, option_map, is_some}
use Rattle.hr_digest.specs.Digest.{digest_of}
use Rattle.hr_digest.specs.declared.digest.Digest.{Digest}
use Rattle.hr_name.specs.Name.{RepoName}
use Rattle.hr_event.specs.declared.cause.Cause.{Cause}
use Rattle.hr_event.specs.declared.cause.Cause.TheVariants as cause
use Rattle.hr_event.specs.declared.entry.Entry.{Entry}
use Rattle.hr_event.specs.declared.reference.Reference.TheVariants as by
use Rattle.hr_manifest.specs.declared.child.ChildKind.{ChildKind}
use Rattle.hr_manifest.specs.declared.child.ChildKind.TheVariants as kind
use Rattle.hr_graph.specs.Reached.{AreTooMany, HasLen, IsReachable, IsTooDeep, IsUnsized, Reached}
use Rattle.hr_graph.proofs.ReachedLaws.{reached_more}
use Rattle.hr_adapter.specs.Content.{Content}
use Rattle.hr_adapter.specs.Reg.{BothOrNeither, Reg, Retagged, Row}
use Rattle.hr_journal.proofs.ListLaws.{each_then}
use Rattle.hr_line.specs.Evidence.{IsLengthOf, IsShown, MeasuredFor, ReachedBy, ReadFor, digest_at, length_at}
use Rattle.hr_line.specs.declared.held.Admitted.{Admitted}
use Rattle.hr_line.proofs.EvidenceLemmas.{measured_later, read_later, root_later, some_later}
use Rattle.hr_line.proofs.SourceLemmas.{IsRead}

-- ---- one entry more

module _ (a : Admitted) (e : Entry) (log : List Entry) where
  at_level : (level : ℕ) (root : Digest) (what : ChildKind) (d : Digest) → Reached (ReadFor a log) level root what d
      → Reached (ReadFor a (e ∷ log)) level root what d
  at_level level root what d there =
      reached_more (ReadFor a log) (ReadFor a (e ∷ log)) (MeasuredFor a log) (MeasuredFor a (e ∷ log)) (read_later a e log)
      (measured_later a e log) level root what d there

  there_later : (root : Digest) (what : ChildKind) (d : Digest) → IsReachable (ReadFor a log) root what d
      → IsReachable (ReadFor a (e ∷ log)) root what d
  there_later root what d there = (there.0, at_level there.0 root what d there.1)

  reached_later : (what : ChildKind) (d : Digest) → ReachedBy a log what d → ReachedBy a (e ∷ log) what d
  reached_later what d reached = record {
    root = reached.root;
    is_root = root_later a e log reached.root reached.is_root;
    there = there_later reached.root what d reached.there;
  }

  len_later : (what : ChildKind) (d : Digest) (len : ℕ) → HasLen (ReadFor a log) (MeasuredFor a log) what d len
      → HasLen (ReadFor a (e ∷ log)) (MeasuredFor a (e ∷ log)) what d len
  len_later kind.Manifest d len has = (has.0, read_later a e log d has.0 has.1, has.2)
  len_later kind.Blob d len has = measured_later a e log d len has
  len_later kind.Foreign d len has = has

  unsized_later : (root d : Digest) (said got : ℕ) → IsUnsized (ReadFor a log) (MeasuredFor a log) root d said got
      → IsUnsized (ReadFor a (e ∷ log)) (MeasuredFor a (e ∷ log)) root d said got
  unsized_later root d said got unsized = record {
    parent = unsized.parent;
    there = there_later root kind.Manifest unsized.parent unsized.there;
    child = unsized.child;
    listed = record {
      manifest = unsized.listed.manifest;
      read = read_later a e log unsized.parent unsized.listed.manifest unsized.listed.read;
      within = unsized.listed.within;
    };
    digest_is = unsized.digest_is;
    size_is = unsized.size_is;
    known_len = len_later unsized.child.kind d got unsized.known_len;
    other = unsized.other;
  }

  deep_later : (root d : Digest) → IsTooDeep (ReadFor a log) root d → IsTooDeep (ReadFor a (e ∷ log)) root d
  deep_later root d deep = record {
    level = deep.level;
    height = deep.height;
    lowest = deep.lowest;
    there = at_level deep.level root kind.Manifest d deep.there;
    below = at_level deep.height d kind.Manifest deep.lowest deep.below;
    deep = deep.deep;
  }

  many_later : (root : Digest) → AreTooMany (ReadFor a log) root → AreTooMany (ReadFor a (e ∷ log)) root
  many_later root many = record {
    blobs = many.blobs;
    manifests = many.manifests;
    once_blobs = many.once_blobs;
    once_manifests = many.once_manifests;
    each_blob = each_then {P = IsReachable (ReadFor a log) root kind.Blob} {Q = IsReachable (ReadFor a (e ∷ log)) root kind.Blob}
        (there_later root kind.Blob) many.blobs many.each_blob;
    each_manifest = each_then {P = IsReachable (ReadFor a log) root kind.Manifest}
        {Q = IsReachable (ReadFor a (e ∷ log)) root kind.Manifest} (there_later root kind.Manifest) many.manifests many.each_manifest;
    many = many.many;
  }

  length_later : (c : Content) (ever : List Row) (len : ℕ) → IsLengthOf a log c ever len → IsLengthOf a (e ∷ log) c ever len
  length_later c ever len (IsLengthOf.child what d reached is) = IsLengthOf.child what d (reached_later what d reached) is
  length_later c ever len (IsLengthOf.tagged row within repo named is) = IsLengthOf.tagged row within repo named is

  told_later : (source dest : Option Content) (ever : List Row) (len : ℕ)
      → IfSome source (λ c. IfSome dest (λ _. IsLengthOf a log c ever len))
      → IfSome source (λ c. IfSome dest (λ _. IsLengthOf a (e ∷ log) c ever len))
  told_later None dest ever len told = tt
  told_later (Some c) None ever len told = tt
  told_later (Some c) (Some d) ever len told = length_later c ever len told

  -- what shows a cause shows it with one entry more
  pub shown_later : (source dest : Reg) (why : Cause) → IsShown a log source dest why → IsShown a (e ∷ log) source dest why
  shown_later source dest (cause.Fault reg before after) shown = shown
  shown_later source dest (cause.Differs asked got) shown =
      record { what = shown.what; reached = reached_later shown.what asked shown.reached; other = shown.other; told = shown.told }
  shown_later source dest (cause.SizeDiffers d said got) shown = record {
    root = shown.root;
    is_root = root_later a e log shown.root shown.is_root;
    unsized = unsized_later shown.root d said got shown.unsized;
  }
  shown_later source dest (cause.Gone (by.Tag tag)) shown = shown
  shown_later source dest (cause.Gone (by.Digest d)) shown =
      record { what = shown.what; reached = reached_later shown.what d shown.reached; told = shown.told }
  shown_later source dest (cause.Unreadable d) shown = record {
    m = shown.m;
    read = some_later a e log shown.m shown.read;
    own = shown.own;
    why = shown.why;
    is_form = shown.is_form;
    refused = shown.refused;
  }
  shown_later source dest (cause.TooDeep d) shown = record {
    root = shown.root;
    is_root = root_later a e log shown.root shown.is_root;
    deep = deep_later shown.root d shown.deep;
  }
  shown_later source dest (cause.TooMany count) (inl shown) =
      inl (record { m = shown.m; read = some_later a e log shown.m shown.read; refused = shown.refused })
  shown_later source dest (cause.TooMany count) (inr shown) = inr (record {
    root = shown.root;
    is_root = root_later a e log shown.root shown.is_root;
    many = many_later shown.root shown.many;
    is = shown.is;
  })
  shown_later source dest (cause.TooLong len) shown =
      record { over = shown.over; told = told_later source.told dest.told source.ever len shown.told }
  shown_later source dest cause.Memory shown = tt

-- ---- connections later on

-- a source later on: it was only read
pub record IsLaterSource (f g : Reg) : Type 0 where
  pub read : IsRead f g
  pub faults : f.faults ≤ g.faults

-- a destination later on: it tells where it told
pub record IsLaterDest (p q : Reg) : Type 0 where
  pub tells : is_some q.told ≡ is_some p.told
  pub faults : p.faults ≤ q.faults

told_moved : (P : Content → Type 0) → ((c d : Content) → Retagged c d → P c → P d) → (o p : Option Content)
    → BothOrNeither Retagged o p → IfSome o P → IfSome p P
told_moved P step None None moved had = tt
told_moved P step (Some c) (Some d) moved had = step c d moved had
told_moved P step (Some c) None moved had = absurd moved
told_moved P step None (Some d) moved had = absurd moved

digest_moved : (c d : Content) (repo : RepoName) (what : ChildKind) (x : Digest) → Retagged c d → digest_at d repo what x ≡ digest_at c repo what x
digest_moved c d repo kind.Manifest x moved = ap (option_map (λ m. digest_of m.bytes)) (moved.manifests repo x)
digest_moved c d repo kind.Blob x moved = ap (option_map digest_of) (moved.blobs repo x)
digest_moved c d repo kind.Foreign x moved = refl

length_moved : (c d : Content) (repo : RepoName) (what : ChildKind) (x : Digest) → Retagged c d → length_at d repo what x ≡ length_at c repo what x
length_moved c d repo kind.Manifest x moved = ap (option_map (λ m. length m.bytes)) (moved.manifests repo x)
length_moved c d repo kind.Blob x moved = ap (option_map length) (moved.blobs repo x)
length_moved c d repo kind.Foreign x moved = refl

module _ (a : Admitted) (log : List Entry) (f g p q : Reg) (source : IsLaterSource f g) (dest : IsLaterDest p q) where
  is_length : (c d : Content) (len : ℕ) → Retagged c d → IsLengthOf a log c f.ever len → IsLengthOf a log d g.ever len
  is_length c d len moved (IsLengthOf.child what x reached is) =
      IsLengthOf.child what x reached (length_moved c d a.spec.from what x moved ∙ is)
  is_length c d len moved (IsLengthOf.tagged row within repo named is) =
      IsLengthOf.tagged row (subst (λ (rows : List Row). Contains rows row) (sym source.read.ever) within) repo named is

  both_told : (s0 s1 d0 d1 : Option Content) (len : ℕ) → BothOrNeither Retagged s0 s1 → is_some d1 ≡ is_some d0
      → IfSome s0 (λ c. IfSome d0 (λ _. IsLengthOf a log c f.ever len)) → IfSome s1 (λ c. IfSome d1 (λ _. IsLengthOf a log c g.ever len))
  both_told None None d0 d1 len moved tells told = tt
  both_told (Some c) None d0 d1 len moved tells told = absurd moved
  both_told None (Some d) d0 d1 len moved tells told = absurd moved
  both_told (Some c) (Some d) d0 None len moved tells told = tt
  both_told (Some c) (Some d) None (Some x) len moved tells told = cc
  both_told (Some c) (Some d) (Some y) (Some x) len moved tells told = is_length c d len moved told

  -- what shows a cause shows it later on
  pub shown_on : (why : Cause) → IsShown a log f p why → IsShown a log g q why
  shown_on (cause.Fault reg before after) shown = record {
    rose = shown.rose;
    whose = elim shown.whose [
      | inl at ↦ inl (at.0, (let now = at.1 in let more = source.faults in omega (arith, now, more)))
      | inr at ↦ inr (at.0, (let now = at.1 in let more = dest.faults in omega (arith, now, more)))
    ];
  }
  shown_on (cause.Differs asked got) shown = record {
    what = shown.what;
    reached = shown.reached;
    other = shown.other;
    told = told_moved (λ c. digest_at c a.spec.from shown.what asked ≡ Some got)
        (λ c d moved had. digest_moved c d a.spec.from shown.what asked moved ∙ had) f.told g.told source.read.told shown.told;
  }
  shown_on (cause.SizeDiffers d said got) shown = shown
  shown_on (cause.Gone (by.Tag tag)) shown = shown
  shown_on (cause.Gone (by.Digest x)) shown = record {
    what = shown.what;
    reached = shown.reached;
    told = told_moved (λ c. digest_at c a.spec.from shown.what x ≡ None)
        (λ c d moved had. digest_moved c d a.spec.from shown.what x moved ∙ had) f.told g.told source.read.told shown.told;
  }
  shown_on (cause.Unreadable d) shown = shown
  shown_on (cause.TooDeep d) shown = shown
  shown_on (cause.TooMany count) shown = shown
  shown_on (cause.TooLong len) shown = record {
    over = shown.over;
    told = both_told f.told g.told p.told q.told len source.read.told dest.tells shown.told;
  }
  shown_on cause.Memory shown = tt
