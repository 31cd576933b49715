-- No cause but want of memory is shown of tags that are whole.
use Rattle.std.proofs.Common.{◌≡◌, inl, inr, refl, sym, ap, subst, ◌∙◌, ℕ, List, arith}
use Rattle.std.specs.Prelude.{Option, Some, None, IfSome, Ok, Err, Contains, option_and_then, option_map}
use Rattle.std.specs.List.{AllByRecursion}
use Rattle.hr_base.specs.Bytes.{ByteList}
use Rattle.hr_base.specs.declared.number.RegNo.{RegNo}
use Rattle.hr_cause.specs.Stream.{Rose}
use Rattle.hr_digest.specs.Digest.{digest_of}
use Rattle.hr_digest.specs.declared.digest.Digest.{Digest}
use Rattle.hr_name.specs.Name.{RepoName}
use Rattle.hr_name.specs.Tag.{TagName}
use Rattle.hr_event.specs.declared.cause.Cause.{Cause}
use Rattle.hr_event.specs.declared.cause.Cause.TheVariants as cause
use Rattle.hr_event.specs.declared.entry.Entry.{Entry}
use Rattle.hr_event.specs.declared.reference.Fetched.{Fetched}
use Rattle.hr_event.specs.declared.reference.Reference.TheVariants as by
use Rattle.hr_manifest.specs.Manifest.{Parts}
use Rattle.hr_manifest.specs.Reading.{Reads, Refuses}
use Rattle.hr_manifest.specs.declared.child.Child.{Child}
use Rattle.hr_manifest.specs.declared.child.ChildKind.{ChildKind}
use Rattle.hr_manifest.specs.declared.child.ChildKind.TheVariants as kind
use Rattle.hr_manifest.specs.declared.refusal.Unreadable.{Unreadable}
use Rattle.hr_manifest.proofs.ReadingLaws.{reads_short}
use Rattle.hr_adapter.specs.Content.{Content, Honest, blob_at, fetch_at, manifest_at, tag_at}
use Rattle.hr_adapter.specs.Reg.{Reg}
use Rattle.hr_journal.specs.Graph.{StandsWhole}
use Rattle.hr_journal.proofs.ListLaws.{each_has}
use Rattle.hr_line.specs.Destination.{stored_of}
use Rattle.hr_line.specs.Evidence.{DiffersShown, FaultShown, IsRootOf, IsShown, MeasuredFor, ReachedBy, ReadFor, ReadSome, SizeShown, digest_at}
use Rattle.hr_line.specs.declared.held.Admitted.{Admitted}
use Rattle.hr_whole.specs.Said.{EndsFor, IsAskedFor, IsFromSource, IsMissing, IsTooLong}
use Rattle.hr_whole.specs.Whole.{HasFewPairs, IsHere, TagIsWhole}
use Rattle.hr_whole.proofs.GraphLemmas.{is_there, not_deep, not_many, not_unsized, reached_blob, reached_closed}

-- ---- what a content has

-- what a tag leads to stands under the digest that it names
leads : (c : Content) (repo : RepoName) (target : Option Digest) (m : Fetched) → option_and_then (manifest_at c repo) target ≡ Some m
    → (d : Digest) × (target ≡ Some d) × (manifest_at c repo d ≡ Some m)
leads c repo (Some d) m is = (d, refl, is)
leads c repo None m is = cc

own_manifest : (c : Content) (repo : RepoName) (d : Digest) (m : Fetched) → Honest c → manifest_at c repo d ≡ Some m
    → digest_of m.bytes ≡ d
own_manifest c repo d m honest there =
    subst (λ (o : Option Fetched). IfSome o (λ x. digest_of x.bytes ≡ d)) there (honest.manifests repo d)

pub own_blob : (c : Content) (repo : RepoName) (d : Digest) (bytes : ByteList) → Honest c → blob_at c repo d ≡ Some bytes
    → digest_of bytes ≡ d
own_blob c repo d bytes honest there =
    subst (λ (o : Option ByteList). IfSome o (λ x. digest_of x ≡ d)) there (honest.blobs repo d)

mapped : {X Y : Type 0} (f : X → Y) (o : Option X) (y : Y) → option_map f o ≡ Some y → (x : X) × (o ≡ Some x) × (f x ≡ y)
mapped f (Some x) y is = (x, refl, (let e : f x ≡ y = cc in e))
mapped f None y is = cc

-- ---- what was read

module _ (a : Admitted) (log : List Entry) (c : Content) (found : IsFromSource a log c)
    (tags : AllByRecursion (TagIsWhole c a.spec.from) a.spec.tags) where
  -- a tag that was read is whole, and this is its manifest
  tag_whole : (tag : TagName) (m : Fetched) → Contains a.spec.tags tag → fetch_at c a.spec.from (by.Tag tag) ≡ Some m
      → (d : Digest) × (manifest_at c a.spec.from d ≡ Some m) × StandsWhole c a.spec.from d × HasFewPairs c a.spec.from d
  tag_whole tag m named leads_to =
      let whole = each_has (TagIsWhole c a.spec.from) a.spec.tags tags tag named in
      let at = leads c a.spec.from (tag_at c a.spec.from tag) m leads_to in
      let both : Some at.0 ≡ Some whole.digest = sym at.1 ∙ whole.named in
      let same : at.0 ≡ whole.digest = cc in
      (whole.digest, subst (λ (d : Digest). manifest_at c a.spec.from d ≡ Some m) same at.2, whole.whole, whole.few)

  some_there : (m : Fetched) → ReadSome a log m → (d : Digest) × (manifest_at c a.spec.from d ≡ Some m)
  some_there m (ReadSome.tagged tag says) =
      let both = found.tagged tag m says in
      let at = tag_whole tag m both.0 both.1 in (at.0, at.1)
  some_there m (ReadSome.child d says) = (d, (found.child d m says).1)

  read_here : (d : Digest) (parts : Parts) → ReadFor a log d parts → IsHere c a.spec.from d parts
  read_here d parts read =
      let at = some_there (stored_of parts) read.read in
      let same : at.0 ≡ d = sym (own_manifest c a.spec.from at.0 (stored_of parts) found.honest at.1) ∙ read.own in
      record {
        there = subst (λ (x : Digest). manifest_at c a.spec.from x ≡ Some (stored_of parts)) same at.1;
        reads = read.reads;
      }

  root_whole : (root : Digest) → IsRootOf a log root → StandsWhole c a.spec.from root × HasFewPairs c a.spec.from root
  root_whole root is =
      let both = found.tagged is.tag is.m is.says in
      let at = tag_whole is.tag is.m both.0 both.1 in
      let same : at.0 ≡ root = sym (own_manifest c a.spec.from at.0 is.m found.honest at.1) ∙ is.own in
      subst (λ (x : Digest). StandsWhole c a.spec.from x × HasFewPairs c a.spec.from x) same (at.2, at.3)

  -- a manifest that was reached is there, and readable
  manifest_there : (d : Digest) → ReachedBy a log kind.Manifest d
      → (m : Fetched) × (kids : List Child) × (manifest_at c a.spec.from d ≡ Some m) × Reads m.media m.bytes kids
  manifest_there d reached =
      let whole = root_whole reached.root reached.is_root in
      let at = reached_closed c a.spec.from (ReadFor a log) read_here reached.there.0 8 reached.root d whole.0 reached.there.1 in
      is_there c a.spec.from at.0 d at.2

  blob_there : (d : Digest) → ReachedBy a log kind.Blob d → (bytes : ByteList) × (blob_at c a.spec.from d ≡ Some bytes)
  blob_there d reached =
      let whole = root_whole reached.root reached.is_root in
      reached_blob c a.spec.from (ReadFor a log) read_here reached.there.0 reached.root d whole.0 reached.there.1

  -- what is asked for is readable
  asked_reads : (m : Fetched) → IsAskedFor a c log m → (kids : List Child) × Reads m.media m.bytes kids
  asked_reads m (IsAskedFor.tagged tag named leads_to) =
      let at = tag_whole tag m named leads_to in
      let there = is_there c a.spec.from 8 at.0 at.2 in
      let both : Some there.0 ≡ Some m = sym there.2 ∙ at.1 in
      let same : there.0 ≡ m = cc in
      (there.1, subst (λ (x : Fetched). Reads x.media x.bytes there.1) same there.3)
  asked_reads m (IsAskedFor.child d reached is) =
      let there = manifest_there d reached in
      let both : Some there.0 ≡ Some m = sym there.2 ∙ is in
      let same : there.0 ≡ m = cc in
      (there.1, subst (λ (x : Fetched). Reads x.media x.bytes there.1) same there.3)

  some_asked : (m : Fetched) → ReadSome a log m → IsAskedFor a c log m
  some_asked m (ReadSome.tagged tag says) = let both = found.tagged tag m says in IsAskedFor.tagged tag both.0 both.1
  some_asked m (ReadSome.child d says) = let both = found.child d m says in IsAskedFor.child d both.0 both.1

  -- ---- each cause

  -- no manifest that was read is refused
  not_refused : (m : Fetched) (why : Unreadable) → ReadSome a log m → Refuses m.media m.bytes why → ⊥
  not_refused m why read refuses =
      let reads = asked_reads m (some_asked m read) in
      let both : Ok reads.0 ≡ Err why = sym reads.1 ∙ refuses in cc

  not_missing : (d : Digest) → IsMissing a c log d → ⊥
  not_missing d (IsMissing.manifest reached none) =
      let there = manifest_there d reached in
      let both : Some there.0 ≡ None = sym there.2 ∙ none in cc
  not_missing d (IsMissing.blob reached none) =
      let there = blob_there d reached in
      let both : Some there.0 ≡ None = sym there.1 ∙ none in cc

  tag_there : (tag : TagName) → Contains a.spec.tags tag → fetch_at c a.spec.from (by.Tag tag) ≡ None → ⊥
  tag_there tag named none =
      let whole = each_has (TagIsWhole c a.spec.from) a.spec.tags tags tag named in
      let there = is_there c a.spec.from 8 whole.digest whole.whole in
      let both : Some there.0 ≡ None =
      sym there.2 ∙ sym (ap (option_and_then (manifest_at c a.spec.from)) whole.named) ∙ none in cc

  not_long : (len : ℕ) → IsTooLong a c log len → ⊥
  not_long len long =
      let reads = asked_reads long.m long.asked in
      omega (arith, reads_short long.m.media long.m.bytes reads.0 reads.1, long.long, long.over)

  not_other : (k : ChildKind) (asked got : Digest) → digest_at c a.spec.from k asked ≡ Some got → got ≡ asked
  not_other kind.Manifest asked got is =
      let at = mapped (λ (m : Fetched). digest_of m.bytes) (manifest_at c a.spec.from asked) got is in
      sym at.2 ∙ own_manifest c a.spec.from asked at.0 found.honest at.1
  not_other kind.Blob asked got is =
      let at = mapped digest_of (blob_at c a.spec.from asked) got is in
      sym at.2 ∙ own_blob c a.spec.from asked at.0 found.honest at.1
  not_other kind.Foreign asked got is = cc

  not_unlike : (source : Reg) (asked got : Digest) → source.told ≡ Some c → DiffersShown a log source asked got → ⊥
  not_unlike source asked got told shown =
      shown.other (not_other shown.what asked got
      (subst (λ (o : Option Content). IfSome o (λ x. digest_at x a.spec.from shown.what asked ≡ Some got)) told shown.told))

  not_size : (d : Digest) (said got : ℕ) → SizeShown a log d said got → ⊥
  not_size d said got shown =
      not_unsized c a.spec.from (ReadFor a log) read_here (MeasuredFor a log) found.lengths shown.root d said got
      (root_whole shown.root shown.is_root).0 shown.unsized

  not_fault : (source dest : Reg) (reg : RegNo) (before after : ℕ) → source.faults ≡ 0 → dest.faults ≡ 0
      → FaultShown a source dest reg before after → ⊥
  not_fault source dest reg before after none never shown = elim shown.whose [
    | inl at ↦ none_rose before after shown.rose (omega (arith, at.1, none))
    | inr at ↦ none_rose before after shown.rose (omega (arith, at.1, never))
  ]
    where
      none_rose : (before after : ℕ) → Rose before after → after ≡ 0 → ⊥
      none_rose before after higher is = omega (arith, higher, is)

  -- the causes that are left are want of memory
  pub only_memory : (source dest : Reg) (why : Cause) → source.told ≡ Some c → source.faults ≡ 0 → dest.faults ≡ 0
      → EndsFor a c log why → IsShown a log source dest why → why ≡ cause.Memory
  only_memory source dest (cause.Fault reg before after) told none never ends shown =
      absurd (not_fault source dest reg before after none never shown)
  only_memory source dest (cause.Differs asked got) told none never ends shown =
      absurd (not_unlike source asked got told shown)
  only_memory source dest (cause.SizeDiffers d said got) told none never ends shown = absurd (not_size d said got shown)
  only_memory source dest (cause.Gone (by.Tag tag)) told none never ends shown = absurd (tag_there tag ends.0 ends.1)
  only_memory source dest (cause.Gone (by.Digest d)) told none never ends shown = absurd (not_missing d ends)
  only_memory source dest (cause.Unreadable d) told none never ends shown =
      absurd (not_refused shown.m shown.why shown.read shown.refused)
  only_memory source dest (cause.TooDeep d) told none never ends shown =
      absurd (not_deep c a.spec.from (ReadFor a log) read_here shown.root d (root_whole shown.root shown.is_root).0 shown.deep)
  only_memory source dest (cause.TooMany count) told none never ends (inl shown) =
      absurd (not_refused shown.m (Unreadable.TooMany count) shown.read shown.refused)
  only_memory source dest (cause.TooMany count) told none never ends (inr shown) =
      absurd (not_many c a.spec.from (ReadFor a log) read_here shown.root (root_whole shown.root shown.is_root).1 shown.many)
  only_memory source dest (cause.TooLong len) told none never ends shown = absurd (not_long len ends)
  only_memory source dest cause.Memory told none never ends shown = refl
