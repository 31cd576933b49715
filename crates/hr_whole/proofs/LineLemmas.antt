-- What each line says of a quiet source, and what ends it there.
use Rattle.std.proofs.Common.{◌≡◌, ◌≤◌, refl, sym, ap, subst, ◌∙◌, ℕ, Bool, true, false, List, [], ◌∷◌, ◌++◌, length, arith}
use Rattle.std.specs.Prelude.{Option, Some, None, IfSome, IsTrue, Result, Ok, Err, Contains, map, option_map, ⊤, ◌≢◌}
use Rattle.hr_base.specs.declared.limit.TheConstants.{MANIFEST_LIMIT}
use Rattle.hr_base.specs.declared.number.RegNo.{RegNo}
use Rattle.hr_digest.specs.Digest.{digest_of}
use Rattle.hr_digest.specs.Order.{digest_eq}
use Rattle.hr_digest.specs.declared.digest.Digest.{Digest}
use Rattle.hr_name.specs.Tag.{TagName}
use Rattle.hr_event.specs.declared.cause.Cause.{Cause}
use Rattle.hr_event.specs.declared.cause.Cause.TheVariants as cause
use Rattle.hr_event.specs.declared.entry.Entry.{Entry}
use Rattle.hr_event.specs.declared.entry.How.{How}
use Rattle.hr_event.specs.declared.entry.How.TheVariants.{Put, Unsure}
use Rattle.hr_event.specs.declared.entry.What.{What}
use Rattle.hr_event.specs.declared.entry.What.TheVariants as what
use Rattle.hr_event.specs.declared.reference.Fetched.{Fetched}
use Rattle.hr_event.specs.declared.reference.Reference.{Reference}
use Rattle.hr_event.specs.declared.reference.Reference.TheVariants as by
use Rattle.hr_manifest.specs.Manifest.{Parts}
use Rattle.hr_manifest.specs.declared.child.ChildKind.TheVariants as kind
use Rattle.hr_manifest.specs.declared.refusal.Unreadable.{Unreadable}
use Rattle.hr_manifest.specs.declared.refusal.Unreadable.TheVariants as form
use Rattle.hr_manifest.proofs.ReadingLaws.{refuses_long}
use Rattle.hr_graph.specs.Walk.{View}
use Rattle.hr_graph.specs.declared.need.Need.{Need}
use Rattle.hr_graph.specs.declared.need.Need.TheVariants as need
use Rattle.hr_graph.specs.declared.need.WalkRefused.{WalkRefused}
use Rattle.hr_graph.specs.declared.need.WalkRefused.TheVariants as walk
use Rattle.hr_adapter.specs.Calls.{Asks, Fetches, FindsBlob, Heads, PutsManifest}
use Rattle.hr_adapter.specs.Content.{Content, blob_at, fetch_at}
use Rattle.hr_adapter.specs.Reg.{IsSound, Reg}
use Rattle.hr_adapter.specs.declared.fault.RegFault.{RegFault}
use Rattle.hr_adapter.specs.declared.fault.RegFault.TheVariants as why
use Rattle.hr_adapter.proofs.CallLaws.{Asks-quiet}
use Rattle.hr_blob.specs.Copies.{Ends}
use Rattle.hr_blob.specs.declared.outcome.Failing.{Failing}
use Rattle.hr_blob.specs.declared.outcome.NotCopied.{NotCopied}
use Rattle.hr_blob.specs.declared.outcome.NotCopied.TheVariants as copy
use Rattle.hr_line.specs.Cause.{failing_cause, fault_cause, form_cause}
use Rattle.hr_line.specs.Evidence.{ReachedBy}
use Rattle.hr_line.specs.Kept.{WorkSeen}
use Rattle.hr_line.specs.Line.{BlobAsked, ChildCompared, ChildFetched, ChildGoes, ChildStored, CopyEnds, EndsBy, IsReading, LineEnd, LookEnds, LookFound, RootDecided, RootGoes, RootLooked, RootStored, TagFetched, decide, entry_of, walked}
use Rattle.hr_line.specs.Step.{Line, StoreLine, WalkLine, WorkLine}
use Rattle.hr_line.specs.declared.held.Admitted.{Admitted}
use Rattle.hr_line.specs.declared.held.Work.{Work}
use Rattle.hr_whole.specs.Said.{EndsFor, IsAskedFor, IsMissing, IsSaid, IsTooLong}
use Rattle.hr_whole.proofs.AskedLemmas.{blob_reached, manifest_reached, put_short}

-- an entry is what the source has, for each content that K says it is
abbrev pub SaidOf : Admitted → (Content → Type 0) → List Entry → What → Type 0
SaidOf a K older said = (c : Content) → K c → IsSaid a c older said

-- each of these entries is what the source has, by those before it
abbrev pub MoreSaid : Admitted → (Content → Type 0) → List What → List Entry → Type 0
MoreSaid a K [] log = ⊤
MoreSaid a K (said ∷ more) log = SaidOf a K (map (entry_of a) more ++ log) said × MoreSaid a K more log

-- so is the end of a line
abbrev pub EndSaid : Admitted → (Content → Type 0) → List Entry → LineEnd → Type 0
EndSaid a K log (Err why) = (c : Content) → K c → EndsFor a c log why
EndSaid a K log (Ok work) = ⊤

-- a line wrote entries which the source has, and so is its end
pub record LineSaid (a : Admitted) (K : Content → Type 0) (log after : List Entry) (end : LineEnd) : Type 0 where
  pub more : List What
  pub joined : after ≡ map (entry_of a) more ++ log
  pub each : MoreSaid a K more log
  pub ends : EndSaid a K after end

found_of : {X Y : Type 0} (f : X → Y) (o : Option X) (y : Y) → option_map f o ≡ Some y → (x : X) × (o ≡ Some x) × (f x ≡ y)
found_of f (Some x) y is = (x, refl, (let e : f x ≡ y = cc in e))
found_of f None y is = cc

at_told : (P : Content → Type 0) (o : Option Content) (c : Content) → o ≡ Some c → IfSome o P → P c
at_told P o c is h = subst (λ (t : Option Content). IfSome t P) is h

not_both : {X : Type 0} (o : Option X) (x : X) → o ≡ Some x → o ≡ None → ⊥
not_both o x is none = let both : Some x ≡ None = sym is ∙ none in cc

module _ (a : Admitted) (K : Content → Type 0) where
  fault_ends : (older : List Entry) (fault : RegFault) (reg : RegNo) (before now : ℕ)
      → ((c : Content) → K c → (len : ℕ) → fault ≡ RegFault.TooLong len → IsTooLong a c older len)
      → (c : Content) → K c → EndsFor a c older (fault_cause fault reg before now)
  fault_ends older why.Failed reg before now long c k = tt
  fault_ends older (why.TooLong len) reg before now long c k = long c k len refl
  fault_ends older why.Memory reg before now long c k = tt

  walk_ends : (older : List Entry) (looked : Bool) (result : Result View WalkRefused) → EndSaid a K older (walked looked result)
  walk_ends older looked (Ok view) = tt
  walk_ends older looked (Err (walk.TooDeep d)) = λ c k. tt
  walk_ends older looked (Err (walk.TooMany count)) = λ c k. tt
  walk_ends older looked (Err (walk.SizeDiffers d said got)) = λ c k. tt
  walk_ends older looked (Err walk.Memory) = λ c k. tt

  form_ends : (older : List Entry) (m : Fetched) (d : Digest) (w : Unreadable) → length m.bytes ≤ MANIFEST_LIMIT → IsReading m (Err w)
      → (c : Content) → K c → EndsFor a c older (form_cause w d)
  form_ends older m d (form.TooLong len) short refused c k =
      let long = refuses_long m.media m.bytes len (refused (λ e. cc)) in
      absurd (let same = long.0 in let over = long.1 in omega (arith, same, over, short))
  form_ends older m d form.Media short refused c k = tt
  form_ends older m d form.NotJson short refused c k = tt
  form_ends older m d (form.Field name) short refused c k = tt
  form_ends older m d (form.TooMany count) short refused c k = tt
  form_ends older m d form.Memory short refused c k = tt

  module _ (log after : List Entry) (end : LineEnd) where
    none_said : after ≡ log → EndSaid a K after end → LineSaid a K log after end
    none_said is ends = record { more = []; joined = is; each = tt; ends = ends }

    one_said : (said : What) → SaidOf a K log said → after ≡ entry_of a said ∷ log → EndSaid a K after end → LineSaid a K log after end
    one_said said is writes ends = record { more = said ∷ []; joined = writes; each = (is, tt); ends = ends }

    two_said : (said first : What) → SaidOf a K (entry_of a first ∷ log) said → SaidOf a K log first
        → after ≡ entry_of a said ∷ entry_of a first ∷ log → EndSaid a K after end → LineSaid a K log after end
    two_said said first is before writes ends =
        record { more = said ∷ first ∷ []; joined = writes; each = (is, (before, tt)); ends = ends }

    ends_said : (x : Cause) → ((c : Content) → K c → EndsFor a c log x) → EndsBy x log after end → LineSaid a K log after end
    ends_said x is ends =
        none_said ends.0
        (subst (λ (e : LineEnd). EndSaid a K after e) (sym ends.1)
        (λ c k. subst (λ (es : List Entry). EndsFor a c es x) (sym ends.0) (is c k)))

    end_is : (e : LineEnd) → end ≡ e → EndSaid a K after e → EndSaid a K after end
    end_is e is said = subst (λ (x : LineEnd). EndSaid a K after x) (sym is) said

    -- ---- the source

    module _ (g : Reg) (told : (c : Content) → K c → g.told ≡ Some c) where
      tag_long : (tag : TagName) (f : Reg) (fault : RegFault) → Contains a.spec.tags tag
          → Fetches a.spec.from (by.Tag tag) f g (Err fault) → (c : Content) → K c → (len : ℕ) → fault ≡ RegFault.TooLong len → IsTooLong a c log len
      tag_long tag f fault named asks c k len is =
          let long = asks.too_long len (ap (λ (x : RegFault). Err x) is) in
          let at = found_of (λ (m : Fetched). length m.bytes) (fetch_at c a.spec.from (by.Tag tag)) len
          (at_told (λ x. option_map (λ m. length m.bytes) (fetch_at x a.spec.from (by.Tag tag)) ≡ Some len) g.told c (told c k) long.1) in
          record { m = at.0; asked = IsAskedFor.tagged tag named at.1; long = at.2; over = long.0 }

      root_ends : (m : Fetched) (reading : Result Parts Unreadable) → length m.bytes ≤ MANIFEST_LIMIT → IsReading m reading
          → RootGoes (digest_of m.bytes) reading end → EndSaid a K after end
      root_ends m (Ok parts) short reads goes = end_is (walked false goes.walk) goes.is (walk_ends after false goes.walk)
      root_ends m (Err w) short reads goes =
          end_is (Err (form_cause w (digest_of m.bytes))) goes (form_ends after m (digest_of m.bytes) w short reads)

      tag_said : (tag : TagName) (f : Reg) (fetched : Result (Option Fetched) RegFault) → Contains a.spec.tags tag
          → Fetches a.spec.from (by.Tag tag) f g fetched → TagFetched a tag f g log after end fetched → LineSaid a K log after end
      tag_said tag f (Ok (Some m)) named asks came =
          one_said (what.ReadTag tag m.media m.bytes)
          (λ c k. (named, sym (at_told (λ x. Some m ≡ fetch_at x a.spec.from (by.Tag tag)) g.told c (told c k) asks.told))) came.writes
          (root_ends m came.reading asks.short came.reads came.goes)
      tag_said tag f (Ok None) named asks ends =
          ends_said (cause.Gone (by.Tag tag))
          (λ c k. (named, sym (at_told (λ x. None ≡ fetch_at x a.spec.from (by.Tag tag)) g.told c (told c k) asks.told))) ends
      tag_said tag f (Err fault) named asks ends =
          ends_said (fault_cause fault a.spec.src f.faults g.faults)
          (fault_ends log fault a.spec.src f.faults g.faults (tag_long tag f fault named asks)) ends

      child_long : (d : Digest) (f : Reg) (fault : RegFault) → ReachedBy a log kind.Manifest d
          → Fetches a.spec.from (by.Digest d) f g (Err fault) → (c : Content) → K c → (len : ℕ) → fault ≡ RegFault.TooLong len → IsTooLong a c log len
      child_long d f fault reached asks c k len is =
          let long = asks.too_long len (ap (λ (x : RegFault). Err x) is) in
          let at = found_of (λ (m : Fetched). length m.bytes) (fetch_at c a.spec.from (by.Digest d)) len
          (at_told (λ x. option_map (λ m. length m.bytes) (fetch_at x a.spec.from (by.Digest d)) ≡ Some len) g.told c (told c k) long.1) in
          record { m = at.0; asked = IsAskedFor.child d reached at.1; long = at.2; over = long.0 }

      child_ends : (w : Work) (d : Digest) (m : Fetched) (reading : Result Parts Unreadable) → length m.bytes ≤ MANIFEST_LIMIT
          → IsReading m reading → ChildGoes w d reading end → EndSaid a K after end
      child_ends w d m (Ok parts) short reads goes = end_is (walked w.looked goes.walk) goes.is (walk_ends after w.looked goes.walk)
      child_ends w d m (Err x) short reads goes = end_is (Err (form_cause x d)) goes (form_ends after m d x short reads)

      compared_said : (w : Work) (d : Digest) (m : Fetched) (same : Bool) → ReachedBy a log kind.Manifest d
          → length m.bytes ≤ MANIFEST_LIMIT → ChildCompared same a w d m log after end → LineSaid a K log after end
      compared_said w d m true reached short came =
          one_said (what.ReadChild d m.media m.bytes) (λ c k. reached) came.writes (child_ends w d m came.reading short came.reads came.goes)
      compared_said w d m false reached short ends = ends_said (cause.Differs d (digest_of m.bytes)) (λ c k. tt) ends

      child_said : (w : Work) (d : Digest) (f : Reg) (fetched : Result (Option Fetched) RegFault) → ReachedBy a log kind.Manifest d
          → Fetches a.spec.from (by.Digest d) f g fetched → ChildFetched a w d f g log after end fetched → LineSaid a K log after end
      child_said w d f (Ok (Some m)) reached asks came =
          compared_said w d m (digest_eq (digest_of m.bytes) d) reached asks.short came
      child_said w d f (Ok None) reached asks ends =
          ends_said (cause.Gone (by.Digest d))
          (λ c k. IsMissing.manifest reached (sym (at_told (λ x. None ≡ fetch_at x a.spec.from (by.Digest d)) g.told c (told c k) asks.told))) ends
      child_said w d f (Err fault) reached asks ends =
          ends_said (fault_cause fault a.spec.src f.faults g.faults)
          (fault_ends log fault a.spec.src f.faults g.faults (child_long d f fault reached asks)) ends

      failing_ends : (older : List Entry) (x : Failing) (reg : RegNo) → ((c : Content) → K c → (len : ℕ) → x.fault ≢ RegFault.TooLong len)
          → (c : Content) → K c → EndsFor a c older (failing_cause x reg)
      failing_ends older x reg short = fault_ends older x.fault reg x.before x.after (λ c k len is. absurd (short c k len is))

      copy_said : (w : Work) (d : Digest) (said : ℕ) (f p q : Reg) (copied : Result ℕ NotCopied) → ReachedBy a log kind.Blob d
          → Ends a.spec.from a.spec.to d said f g p q copied → CopyEnds a w d said log after end copied → LineSaid a K log after end
      copy_said w d said f p q (Ok len) reached copies ends =
          two_said (what.PutBlob d true) (what.GotBlob d len) (λ c k. tt) (λ c k. tt) ends.0
          (end_is (walked w.looked ends.1.walk) ends.1.is (walk_ends after w.looked ends.1.walk))
      copy_said w d said f p q (Err copy.Gone) reached copies ends =
          ends_said (cause.Gone (by.Digest d))
          (λ c k. IsMissing.blob reached (at_told (λ x. blob_at x a.spec.from d ≡ None) g.told c (told c k) copies.1)) ends
      copy_said w d said f p q (Err (copy.Unopened x)) reached copies ends =
          ends_said (failing_cause x a.spec.src)
          (failing_ends log x a.spec.src (λ c k len is. not_both g.told c (told c k) (copies.2 len is).1)) ends
      copy_said w d said f p q (Err (copy.Unbegun x)) reached copies ends =
          ends_said (failing_cause x a.spec.dst) (failing_ends log x a.spec.dst (λ c k. copies.1.no_length)) ends
      copy_said w d said f p q (Err (copy.Unread x)) reached copies ends =
          ends_said (failing_cause x a.spec.src)
          (failing_ends log x a.spec.src (λ c k len is. not_both g.told c (told c k) (copies.1.too_long len is).1)) ends
      copy_said w d said f p q (Err (copy.Unwritten x)) reached copies ends =
          ends_said (failing_cause x a.spec.dst) (failing_ends log x a.spec.dst (λ c k. copies.1.no_length)) ends
      copy_said w d said f p q (Err (copy.TooLong len)) reached copies ends =
          ends_said (cause.TooLong len) (λ c k. absurd (not_both g.told c (told c k) copies.2)) ends
      copy_said w d said f p q (Err (copy.Differs got)) reached copies ends = ends_said (cause.Differs d got) (λ c k. tt) ends
      copy_said w d said f p q (Err (copy.SizeDiffers got)) reached copies ends =
          one_said (what.GotBlob d got) (λ c k. tt) ends.0 (end_is (Err (cause.SizeDiffers d said got)) ends.1 (λ c k. tt))
      copy_said w d said f p q (Err (copy.Unsure len x)) reached copies ends =
          two_said (what.PutBlob d false) (what.GotBlob d len) (λ c k. tt) (λ c k. tt) ends.0
          (end_is (Err (failing_cause x a.spec.dst)) ends.1 (failing_ends after x a.spec.dst (λ c k. copies.2)))

    -- ---- the destination

    -- a destination that is quiet and tells answers no length
    module _ (p : Reg) (sound : IsSound p) (tells : (c : Content) → K c → (b : Content) × IsTrue p.quiet × (p.told ≡ Some b)) where
      asked_short : {T : Type 0} (q : Reg) (result : Result T RegFault) (older : List Entry) (fault : RegFault) (reg : RegNo) (before now : ℕ)
          → Asks p q result → ((len : ℕ) → fault ≡ RegFault.TooLong len → q.told ≡ None)
          → (c : Content) → K c → EndsFor a c older (fault_cause fault reg before now)
      asked_short q result older fault reg before now asks long =
          fault_ends older fault reg before now
          (λ c k len is.
          let t = tells c k in absurd (not_both q.told t.0 (Asks-quiet p q result sound asks t.1 ∙ t.2) (long len is)))

      look_said : (tag : TagName) (w : Work) (found : Option Digest) (how : Option How) → LookEnds a tag w found log after end how
          → LineSaid a K log after end
      look_said tag w found None ends =
          one_said (what.Looked tag found) (λ c k. tt) ends.0 (end_is (Ok (Some (record w { looked = true }))) ends.1 tt)
      look_said tag w found (Some how) ends =
          two_said (what.Show tag w.walk.root found how) (what.Looked tag found) (λ c k. tt) (λ c k. tt) ends.0 (end_is (Ok None) ends.1 tt)

      looked_said : (tag : TagName) (w : Work) (q : Reg) (found : Result (Option Digest) RegFault)
          → Heads a.spec.to (by.Tag tag) p q found → LookFound a tag w p q log after end found → LineSaid a K log after end
      looked_said tag w q (Ok found) asks finds = look_said tag w found (decide found w.walk.root a.spec.override_it) finds
      looked_said tag w q (Err fault) asks ends =
          ends_said (fault_cause fault a.spec.dst p.faults q.faults)
          (asked_short q (Err fault) log fault a.spec.dst p.faults q.faults asks.asks (λ len is. (asks.too_long len (ap (λ (x : RegFault). Err x) is)).1)) ends

      blob_said : (w : Work) (d : Digest) (q : Reg) (found : Result (Option ℕ) RegFault) → FindsBlob a.spec.to d p q found
          → BlobAsked a w d p q log after end found → LineSaid a K log after end
      blob_said w d q (Ok len) asks found =
          one_said (what.HasBlob d len) (λ c k. tt) found.writes
          (end_is (walked w.looked found.goes.walk) found.goes.is (walk_ends after w.looked found.goes.walk))
      blob_said w d q (Err fault) asks ends =
          ends_said (fault_cause fault a.spec.dst p.faults q.faults)
          (asked_short q (Err fault) log fault a.spec.dst p.faults q.faults asks.asks (λ len is. (asks.too_long len (ap (λ (x : RegFault). Err x) is)).1)) ends

      put_ends : (before q : Reg) (reference : Reference) (parts : Parts) (fault : RegFault) → length parts.bytes ≤ MANIFEST_LIMIT
          → PutsManifest a.spec.to reference parts.media parts.bytes before q (Err fault)
          → (c : Content) → K c → EndsFor a c after (fault_cause fault a.spec.dst before.faults q.faults)
      put_ends before q reference parts fault short puts =
          fault_ends after fault a.spec.dst before.faults q.faults
          (λ c k len is.
          let long = puts.too_long len (ap (λ (x : RegFault). Err x) is) in absurd (let over = long.0 in let same = long.1 in omega (arith, over, same, short)))

      put_said : (w : Work) (d : Digest) (q : Reg) (parts : Parts) (put : Result ⊤ RegFault) → length parts.bytes ≤ MANIFEST_LIMIT
          → PutsManifest a.spec.to (by.Digest d) parts.media parts.bytes p q put → ChildStored a w d p q log after end put
          → LineSaid a K log after end
      put_said w d q parts (Ok done) short puts stores =
          one_said (what.PutChild d true) (λ c k. tt) stores.0
          (end_is (walked w.looked stores.1.walk) stores.1.is (walk_ends after w.looked stores.1.walk))
      put_said w d q parts (Err fault) short puts stores =
          one_said (what.PutChild d false) (λ c k. tt) stores.0
          (end_is (Err (fault_cause fault a.spec.dst p.faults q.faults)) stores.1 (put_ends p q (by.Digest d) parts fault short puts))

      stored_said : (tag : TagName) (root : Digest) (found : Option Digest) (mid q : Reg) (parts : Parts) (put : Result ⊤ RegFault)
          → length parts.bytes ≤ MANIFEST_LIMIT → PutsManifest a.spec.to (by.Tag tag) parts.media parts.bytes mid q put
          → RootStored a tag root found mid q log after end put → LineSaid a K log after end
      stored_said tag root found mid q parts (Ok done) short puts stores =
          one_said (what.Show tag root found Put) (λ c k. tt) stores.0 (end_is (Ok None) stores.1 tt)
      stored_said tag root found mid q parts (Err fault) short puts stores =
          one_said (what.Show tag root found Unsure) (λ c k. tt) stores.0
          (end_is (Err (fault_cause fault a.spec.dst mid.faults q.faults)) stores.1 (put_ends mid q (by.Tag tag) parts fault short puts))

      decided_said : (tag : TagName) (w : Work) (d : Digest) (found : Option Digest) (mid q : Reg) (how : Option How)
          → WorkSeen a log w → w.walk.need ≡ need.PutManifest d → RootDecided a tag w found mid q log after end how
          → LineSaid a K log after end
      decided_said tag w d found mid q None seen is puts =
          stored_said tag w.walk.root found mid q puts.parts puts.put (put_short a log w seen d puts.parts is puts.newest) puts.puts puts.stores
      decided_said tag w d found mid q (Some how) seen is ends =
          one_said (what.Show tag w.walk.root found how) (λ c k. tt) ends.1 (end_is (Ok None) ends.2 tt)

      root_said : (tag : TagName) (w : Work) (d : Digest) (mid q : Reg) (found : Result (Option Digest) RegFault) → WorkSeen a log w
          → w.walk.need ≡ need.PutManifest d → Heads a.spec.to (by.Tag tag) p mid found
          → RootLooked a tag w p mid q log after end found → LineSaid a K log after end
      root_said tag w d mid q (Ok found) seen is asks finds =
          decided_said tag w d found mid q (decide found w.walk.root a.spec.override_it) seen is finds
      root_said tag w d mid q (Err fault) seen is asks ends =
          ends_said (fault_cause fault a.spec.dst p.faults mid.faults)
          (asked_short mid (Err fault) log fault a.spec.dst p.faults mid.faults asks.asks (λ len is. (asks.too_long len (ap (λ (x : RegFault). Err x) is)).1)) ends.1

      store_said : (tag : TagName) (w : Work) (d : Digest) (q : Reg) (root : Bool) → WorkSeen a log w → w.walk.need ≡ need.PutManifest d
          → StoreLine root a tag w d p q log after end → LineSaid a K log after end
      store_said tag w d q true seen is line = root_said tag w d line.mid q line.found seen is line.asks line.finds
      store_said tag w d q false seen is line =
          put_said w d q line.parts line.put (put_short a log w seen d line.parts is line.newest) line.puts line.stores

      -- ---- each line

      module _ (f g : Reg) (told : (c : Content) → K c → g.told ≡ Some c) where
        walk_said : (tag : TagName) (w : Work) (q : Reg) (x : Need) → WorkSeen a log w → w.walk.need ≡ x
            → WalkLine x a tag w f g p q log after end → LineSaid a K log after end
        walk_said tag w q (need.Manifest d) seen is line =
            child_said g told w d f line.1.fetched (manifest_reached a log w seen d is) line.1.asks line.1.comes
        walk_said tag w q (need.HasBlob d) seen is line = blob_said w d q line.1.found line.1.asks line.1.finds
        walk_said tag w q (need.CopyBlob d) seen is line =
            copy_said g told w d line.said f p q line.copied (blob_reached a log w seen d is) line.copies.ends line.ends
        walk_said tag w q (need.PutManifest d) seen is line = store_said tag w d q (digest_eq d w.walk.root) seen is line.1
        walk_said tag w q need.Done seen is line = absurd line

        work_said : (tag : TagName) (w : Work) (q : Reg) (looked : Bool) → WorkSeen a log w
            → WorkLine looked a tag w f g p q log after end → LineSaid a K log after end
        work_said tag w q true seen line = walk_said tag w q w.walk.need seen refl line
        work_said tag w q false seen line = looked_said tag w q line.1.found line.1.asks line.1.finds

        -- what a line says is what its source has
        pub line_said : (tag : TagName) (q : Reg) (work : Option Work) → Contains a.spec.tags tag → IfSome work (WorkSeen a log)
            → Line a tag work f g p q log after end → LineSaid a K log after end
        line_said tag q None named seen line = tag_said g told tag f line.1.fetched named line.1.asks line.1.comes
        line_said tag q (Some w) named seen line = work_said tag w q w.looked seen line
