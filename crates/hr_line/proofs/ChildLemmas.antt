-- The lines that copy what a walk needs have evidence for their ends: children, blobs and puts.
use Rattle.std.proofs.Common.{◌≡◌, ◌≢◌, ◌⊎◌, inl, inr, refl, sym, ap, subst, ◌∙◌, suc, ℕ, ◌≤◌, ◌<◌, Bool, true, false, List, [], ◌∷◌, length, arith}
use Rattle.std.specs.Prelude.{Option, Some, None, IfSome, Result, Ok, Err, option_map, ⊤}
use Rattle.std.specs.List.{AllByRecursion}
use Rattle.hr_base.specs.Bytes.{ByteList}
use Rattle.hr_base.specs.declared.limit.TheConstants.{MANIFEST_LIMIT}
use Rattle.hr_cause.specs.Stream.{Rose}
use Rattle.hr_digest.specs.Digest.{digest_of}
use Rattle.hr_digest.specs.Order.{digest_eq}
use Rattle.hr_digest.specs.declared.digest.Digest.{Digest}
use Rattle.hr_name.specs.Tag.{TagName}
use Rattle.hr_event.specs.declared.cause.Cause.TheVariants as cause
use Rattle.hr_event.specs.declared.entry.Entry.{Entry}
use Rattle.hr_event.specs.declared.entry.What.TheVariants as what
use Rattle.hr_event.specs.declared.reference.Fetched.{Fetched}
use Rattle.hr_event.specs.declared.reference.Reference.TheVariants as by
use Rattle.hr_manifest.specs.Manifest.{Parts}
use Rattle.hr_manifest.specs.Reading.{Reads, reading_of}
use Rattle.hr_manifest.specs.declared.child.ChildKind.{ChildKind}
use Rattle.hr_manifest.specs.declared.child.ChildKind.TheVariants as kind
use Rattle.hr_manifest.specs.declared.refusal.Unreadable.{Unreadable}
use Rattle.hr_manifest.proofs.ReadingLaws.{reads_short}
use Rattle.hr_graph.specs.Reached.{HasLen, IsFromReading, IsOpenedFrom}
use Rattle.hr_graph.specs.Sound.{Asks, AsksBlob, AsksManifest, Lists}
use Rattle.hr_graph.specs.Walk.{Answers, asked_size, newest_manifest}
use Rattle.hr_graph.specs.declared.need.Given.TheVariants as given
use Rattle.hr_graph.specs.declared.need.Need.{Need}
use Rattle.hr_graph.specs.declared.need.Need.TheVariants as need
use Rattle.hr_graph.specs.declared.opened.Opened.{Opened}
use Rattle.hr_adapter.specs.Calls.{Fetches, FindsBlob, Heads, PutsManifest}
use Rattle.hr_adapter.specs.Content.{Content, blob_at, manifest_at}
use Rattle.hr_adapter.specs.Reg.{Reg}
use Rattle.hr_adapter.specs.declared.fault.RegFault.{RegFault}
use Rattle.hr_adapter.specs.declared.fault.RegFault.TheVariants as why
use Rattle.hr_adapter.specs.declared.registry.TheConstants.{BLOB_LIMIT}
use Rattle.hr_blob.specs.Copies.{Blames, Ends}
use Rattle.hr_blob.specs.declared.outcome.Failing.{Failing}
use Rattle.hr_blob.specs.declared.outcome.NotCopied.{NotCopied}
use Rattle.hr_blob.specs.declared.outcome.NotCopied.TheVariants as copy
use Rattle.hr_line.specs.Cause.{failing_cause, fault_cause}
use Rattle.hr_line.specs.Evidence.{IsLengthOf, IsShown, MeasuredFor, ReachedBy, ReadFor, ReadSome, Says, digest_at}
use Rattle.hr_line.specs.Kept.{EndSeen, WorkSeen}
use Rattle.hr_line.specs.Line.{BlobAsked, BlobLine, ChildCompared, ChildFetched, ChildGoes, ChildLine, ChildStored, CopyEnds, CopyLine, IsReading, LineEnd, LookEnds, LookFound, LookLine, PutLine, RootDecided, RootLine, RootLooked, RootStored, decide, entry_of}
use Rattle.hr_line.specs.declared.held.Admitted.{Admitted}
use Rattle.hr_line.specs.declared.held.Work.{Work}
use Rattle.hr_line.proofs.CalmLemmas.{digest_apart, digest_same}
use Rattle.hr_line.proofs.EvidenceLemmas.{goes_seen, says_later, says_now, work_later}
use Rattle.hr_line.proofs.LineLemmas.{ends_seen, form_shown}
use Rattle.hr_line.proofs.ListLemmas.{get_contains}

-- ---- what is asked for is reached

reached_by : (a : Admitted) (log : List Entry) (w : Work) (k : ChildKind) (d : Digest) → WorkSeen a log w
    → (o : Opened) (below : List Opened) → w.walk.opened ≡ o ∷ below → Lists o k d → ReachedBy a log k d
reached_by a log w k d seen o below is lists =
    let from : IsOpenedFrom (ReadFor a log) (MeasuredFor a log) w.walk.root o =
    (subst (λ (os : List Opened). AllByRecursion (IsOpenedFrom (ReadFor a log) (MeasuredFor a log) w.walk.root) os)
    is seen.read.opened).0 in
    record {
      root = w.walk.root;
      is_root = seen.root;
      there = (
        suc o.level,
        (
          o.digest,
          from.there,
          (
            lists.child,
            record {
              manifest = o.manifest;
              read = from.read;
              within = get_contains o.manifest.children o.next lists.child lists.listed;
            },
            lists.kind,
            lists.digest_is,
          ),
        ),
      );
    }

asked_as : (w : Work) (need : Need) (a : Admitted) (log : List Entry) → WorkSeen a log w → w.walk.need ≡ need
    → Asks w.walk.blobs w.walk.manifests need w.walk.opened
asked_as w need a log seen is = subst (λ (n : Need). Asks w.walk.blobs w.walk.manifests n w.walk.opened) is seen.sound.asks

pub child_reached : (a : Admitted) (log : List Entry) (w : Work) (d : Digest) → WorkSeen a log w → w.walk.need ≡ need.Manifest d
    → ReachedBy a log kind.Manifest d
child_reached a log w d seen is = at w.walk.opened refl (asked_as w (need.Manifest d) a log seen is)
  where
    at : (opened : List Opened) → w.walk.opened ≡ opened → AsksManifest w.walk.blobs w.walk.manifests d opened
        → ReachedBy a log kind.Manifest d
    at [] e asks = absurd asks
    at (o ∷ below) e asks = reached_by a log w kind.Manifest d seen o below e asks.0

pub blob_reached : (a : Admitted) (log : List Entry) (w : Work) (d : Digest) → WorkSeen a log w
    → AsksBlob w.walk.blobs w.walk.manifests d w.walk.opened → ReachedBy a log kind.Blob d
blob_reached a log w d seen asks = at w.walk.opened refl asks
  where
    at : (opened : List Opened) → w.walk.opened ≡ opened → AsksBlob w.walk.blobs w.walk.manifests d opened
        → ReachedBy a log kind.Blob d
    at [] e asks = absurd asks
    at (o ∷ below) e asks = reached_by a log w kind.Blob d seen o below e asks.0

-- ---- faults

le_itself : (n : ℕ) → n ≤ n
le_itself n = omega arith

none_told : (a : Admitted) (log : List Entry) (source dest : Reg) (len : ℕ) → MANIFEST_LIMIT < len
    → (source.told ≡ None) ⊎ (dest.told ≡ None) → IsShown a log source dest (cause.TooLong len)
none_told a log source dest len over silent = record { over = over; told = by_told source.told dest.told refl refl }
  where
    by_told : (s d : Option Content) → source.told ≡ s → dest.told ≡ d
        → IfSome s (λ c. IfSome d (λ _. IsLengthOf a log c source.ever len))
    by_told None d e f = tt
    by_told (Some c) None e f = tt
    by_told (Some c) (Some b) e f = absurd (elim silent [ inl is ↦ cc | inr is ↦ cc ])

source_fault : (a : Admitted) (log : List Entry) (source dest : Reg) (before after : ℕ) → Rose before after → after ≤ source.faults
    → IsShown a log source dest (cause.Fault a.spec.src before after)
source_fault a log source dest before after rose now = record { rose = rose; whose = inl (refl, now) }

dest_fault : (a : Admitted) (log : List Entry) (source dest : Reg) (before after : ℕ) → Rose before after → after ≤ dest.faults
    → IsShown a log source dest (cause.Fault a.spec.dst before after)
dest_fault a log source dest before after rose now = record { rose = rose; whose = inr (refl, now) }

blob_over : (len : ℕ) → BLOB_LIMIT < len → MANIFEST_LIMIT < len
blob_over len over = omega (arith, over)

-- ---- the look

head_fault : (a : Admitted) (tag : TagName) (log : List Entry) (g p q : Reg) (fault : RegFault)
    → Heads a.spec.to (by.Tag tag) p q (Err fault) → IsShown a log g q (fault_cause fault a.spec.dst p.faults q.faults)
head_fault a tag log g p q why.Failed asks =
    dest_fault a log g q p.faults q.faults (asks.asks.left.failed refl) (le_itself q.faults)
head_fault a tag log g p q (why.TooLong len) asks =
    let long = asks.too_long len refl in none_told a log g q len long.0 (inr long.1)
head_fault a tag log g p q why.Memory asks = tt

looked_seen : (a : Admitted) (log : List Entry) (w : Work) → WorkSeen a log w → WorkSeen a log (record w { looked = true })
looked_seen a log w seen = record { sound = seen.sound; root = seen.root; read = seen.read }

-- look at the destination
pub look_seen : (a : Admitted) (tag : TagName) (w : Work) (g p q : Reg) (log after : List Entry) (end : LineEnd) → WorkSeen a log w
    → LookLine a tag w p q log after end → EndSeen a after g q end
look_seen a tag w g p q log after end seen line = at line.found line.asks line.finds
  where
    decided : (found : Option Digest) (how : _) → LookEnds a tag w found log after end how → EndSeen a after g q end
    decided found None ends =
        subst (λ (x : LineEnd). EndSeen a after g q x) (sym ends.1)
        (subst (λ (l : List Entry). WorkSeen a l (record w { looked = true })) (sym ends.0)
        (work_later a (entry_of a (what.Looked tag found)) log (record w { looked = true }) (looked_seen a log w seen)))
    decided found (Some how) ends = subst (λ (x : LineEnd). EndSeen a after g q x) (sym ends.1) tt

    at : (found : Result (Option Digest) RegFault) → Heads a.spec.to (by.Tag tag) p q found
        → LookFound a tag w p q log after end found → EndSeen a after g q end
    at (Err fault) asks ends = ends_seen a log after g q _ end ends (head_fault a tag log g p q fault asks)
    at (Ok found) asks ends = decided found (decide found w.walk.root a.spec.override_it) ends

-- ---- a child manifest

child_fault : (a : Admitted) (w : Work) (d : Digest) (log : List Entry) (f g q : Reg) (fault : RegFault) → WorkSeen a log w
    → w.walk.need ≡ need.Manifest d → Fetches a.spec.from (by.Digest d) f g (Err fault)
    → IsShown a log g q (fault_cause fault a.spec.src f.faults g.faults)
child_fault a w d log f g q why.Failed seen is asks =
    source_fault a log g q f.faults g.faults (asks.asks.left.failed refl) (le_itself g.faults)
child_fault a w d log f g q (why.TooLong len) seen is asks =
    let long = asks.too_long len refl in
    record { over = long.0; told = by_told g.told q.told long.1 }
  where
    by_told : (s t : Option Content)
        → IfSome s (λ c. option_map (λ m. length m.bytes) (manifest_at c a.spec.from d) ≡ Some len)
        → IfSome s (λ c. IfSome t (λ _. IsLengthOf a log c g.ever len))
    by_told None t long = tt
    by_told (Some c) None long = tt
    by_told (Some c) (Some b) long = IsLengthOf.child kind.Manifest d (child_reached a log w d seen is) long
child_fault a w d log f g q why.Memory seen is asks = tt

-- what came for a child is what a source that tells has under its digest
came_told : (a : Admitted) (d : Digest) (g : Reg) (m : Fetched) (told : Option Content)
    → IfSome told (λ c. Some m ≡ manifest_at c a.spec.from d)
    → IfSome told (λ c. digest_at c a.spec.from kind.Manifest d ≡ Some (digest_of m.bytes))
came_told a d g m None is = tt
came_told a d g m (Some c) is = ap (option_map (λ (x : Fetched). digest_of x.bytes)) (sym is)

gone_told : (a : Admitted) (d : Digest) (told : Option Content) → IfSome told (λ c. None ≡ manifest_at c a.spec.from d)
    → IfSome told (λ c. digest_at c a.spec.from kind.Manifest d ≡ None)
gone_told a d None is = tt
gone_told a d (Some c) is = ap (option_map (λ (x : Fetched). digest_of x.bytes)) (sym is)

child_goes : (a : Admitted) (w : Work) (d : Digest) (log after : List Entry) (g q : Reg) (m : Fetched) (end : LineEnd)
    → WorkSeen a log w → w.walk.need ≡ need.Manifest d → digest_of m.bytes ≡ d
    → after ≡ entry_of a (what.ReadChild d m.media m.bytes) ∷ log → length m.bytes ≤ MANIFEST_LIMIT
    → (reading : Result Parts Unreadable) → IsReading m reading → ChildGoes w d reading end → EndSeen a after g q end
child_goes a w d log after g q m end seen is own writes short (Err refused) reads goes =
    subst (λ (x : LineEnd). EndSeen a after g q x) (sym goes)
    (form_shown a after g q m d refused
    (ReadSome.child d (subst (λ (l : List Entry). Says a l (what.ReadChild d m.media m.bytes)) (sym writes)
    (says_now a log (what.ReadChild d m.media m.bytes)))) own short reads)
child_goes a w d log after g q m end seen is own writes short (Ok parts) reads goes =
    let now : WorkSeen a after w =
    subst (λ (l : List Entry). WorkSeen a l w) (sym writes)
    (work_later a (entry_of a (what.ReadChild d m.media m.bytes)) log w seen) in
    let says : Says a after (what.ReadChild d m.media m.bytes) =
    subst (λ (l : List Entry). Says a l (what.ReadChild d m.media m.bytes)) (sym writes)
    (says_now a log (what.ReadChild d m.media m.bytes)) in
    goes_seen a after g q w (given.Manifest parts) end now
    (subst (λ (n : Need). Answers n (given.Manifest parts)) (sym is) (ap digest_of reads.1 ∙ own))
    (subst (λ (n : Need). IsFromReading (ReadFor a after) (MeasuredFor a after) n (given.Manifest parts)) (sym is) (record {
      read = subst (λ (x : Fetched). ReadSome a after x) (fetched_is m parts (sym reads.0) (sym reads.1)) (ReadSome.child d says);
      own = ap digest_of reads.1 ∙ own;
      reads = reads_as m parts reads.0 reads.1 reads.2;
    })) goes
  where
    fetched_is : (m : Fetched) (parts : Parts) → m.media ≡ parts.media → m.bytes ≡ parts.bytes
        → m ≡ record { media = parts.media; bytes = parts.bytes }
    fetched_is m parts media bytes =
        ap (λ (x : _). record m { media = x }) media ∙ ap (λ (y : _). record { media = parts.media; bytes = y }) bytes

    reads_as : (m : Fetched) (parts : Parts) → parts.media ≡ m.media → parts.bytes ≡ m.bytes
        → Reads m.media m.bytes parts.children → Reads parts.media parts.bytes parts.children
    reads_as m parts media bytes reads =
        ap (λ (x : _). reading_of x parts.bytes) media ∙ ap (λ (y : _). reading_of m.media y) bytes ∙ reads

-- read a child manifest at the source
pub child_seen : (a : Admitted) (w : Work) (d : Digest) (f g q : Reg) (log after : List Entry) (end : LineEnd) → WorkSeen a log w
    → w.walk.need ≡ need.Manifest d → ChildLine a w d f g log after end → EndSeen a after g q end
child_seen a w d f g q log after end seen is line = at line.fetched line.asks line.comes
  where
    compared : (m : Fetched) → Fetches a.spec.from (by.Digest d) f g (Ok (Some m)) → (b : Bool)
        → digest_eq (digest_of m.bytes) d ≡ b → ChildCompared b a w d m log after end → EndSeen a after g q end
    compared m asks true same came =
        child_goes a w d log after g q m end seen is (digest_same (digest_of m.bytes) d same) came.writes asks.short
        came.reading came.reads came.goes
    compared m asks false other ends =
        ends_seen a log after g q _ end ends (record {
          what = kind.Manifest;
          reached = child_reached a log w d seen is;
          other = digest_apart (digest_of m.bytes) d other;
          told = came_told a d g m g.told asks.told;
        })

    at : (fetched : Result (Option Fetched) RegFault) → Fetches a.spec.from (by.Digest d) f g fetched
        → ChildFetched a w d f g log after end fetched → EndSeen a after g q end
    at (Err fault) asks ends = ends_seen a log after g q _ end ends (child_fault a w d log f g q fault seen is asks)
    at (Ok None) asks ends = ends_seen a log after g q _ end ends (record {
      what = kind.Manifest;
      reached = child_reached a log w d seen is;
      told = gone_told a d g.told asks.told;
    })
    at (Ok (Some m)) asks came = compared m asks (digest_eq (digest_of m.bytes) d) refl came

-- ---- a blob to look for

find_fault : (a : Admitted) (d : Digest) (log : List Entry) (g p q : Reg) (fault : RegFault)
    → FindsBlob a.spec.to d p q (Err fault) → IsShown a log g q (fault_cause fault a.spec.dst p.faults q.faults)
find_fault a d log g p q why.Failed asks =
    dest_fault a log g q p.faults q.faults (asks.asks.left.failed refl) (le_itself q.faults)
find_fault a d log g p q (why.TooLong len) asks =
    let long = asks.too_long len refl in none_told a log g q len (blob_over len long.0) (inr long.1)
find_fault a d log g p q why.Memory asks = tt

measured_by : (a : Admitted) (log : List Entry) (d : Digest) (len : Option ℕ) → Says a log (what.HasBlob d len)
    → IsFromReading (ReadFor a log) (MeasuredFor a log) (need.HasBlob d) (given.Found len)
measured_by a log d (Some n) says = MeasuredFor.looked says
measured_by a log d None says = tt

-- look for a blob at the destination
pub blob_seen : (a : Admitted) (w : Work) (d : Digest) (g p q : Reg) (log after : List Entry) (end : LineEnd) → WorkSeen a log w
    → w.walk.need ≡ need.HasBlob d → BlobLine a w d p q log after end → EndSeen a after g q end
blob_seen a w d g p q log after end seen is line = at line.found line.asks line.finds
  where
    at : (found : Result (Option ℕ) RegFault) → FindsBlob a.spec.to d p q found → BlobAsked a w d p q log after end found
        → EndSeen a after g q end
    at (Err fault) asks ends = ends_seen a log after g q _ end ends (find_fault a d log g p q fault asks)
    at (Ok len) asks found =
        let now : WorkSeen a after w =
        subst (λ (l : List Entry). WorkSeen a l w) (sym found.writes)
        (work_later a (entry_of a (what.HasBlob d len)) log w seen) in
        let says : Says a after (what.HasBlob d len) =
        subst (λ (l : List Entry). Says a l (what.HasBlob d len)) (sym found.writes) (says_now a log (what.HasBlob d len)) in
        goes_seen a after g q w (given.Found len) end now
        (subst (λ (n : Need). Answers n (given.Found len)) (sym is) tt)
        (subst (λ (n : Need). IsFromReading (ReadFor a after) (MeasuredFor a after) n (given.Found len)) (sym is)
        (measured_by a after d len says)) found.goes

-- ---- a blob to copy

failing_source : (a : Admitted) (log : List Entry) (source dest before : Reg) (f : Failing) → Blames f before source
    → ((len : ℕ) → f.fault ≡ RegFault.TooLong len → (BLOB_LIMIT < len) × (source.told ≡ None))
    → IsShown a log source dest (failing_cause f a.spec.src)
failing_source a log source dest before f blames long = at f.fault refl
  where
    at : (fault : RegFault) → f.fault ≡ fault → IsShown a log source dest (fault_cause fault a.spec.src f.before f.after)
    at why.Failed is =
        source_fault a log source dest f.before f.after (blames.rose is) (let now = blames.now in omega (arith, now))
    at (why.TooLong len) is = let l = long len is in none_told a log source dest len (blob_over len l.0) (inl l.1)
    at why.Memory is = tt

failing_dest : (a : Admitted) (log : List Entry) (source dest before : Reg) (f : Failing) → Blames f before dest
    → ((len : ℕ) → f.fault ≢ RegFault.TooLong len) → IsShown a log source dest (failing_cause f a.spec.dst)
failing_dest a log source dest before f blames short = at f.fault refl
  where
    at : (fault : RegFault) → f.fault ≡ fault → IsShown a log source dest (fault_cause fault a.spec.dst f.before f.after)
    at why.Failed is =
        dest_fault a log source dest f.before f.after (blames.rose is) (let now = blames.now in omega (arith, now))
    at (why.TooLong len) is = absurd (short len is)
    at why.Memory is = tt

blob_told : (a : Admitted) (d : Digest) (bytes : ByteList) (told : Option Content)
    → IfSome told (λ c. blob_at c a.spec.from d ≡ Some bytes)
    → IfSome told (λ c. digest_at c a.spec.from kind.Blob d ≡ Some (digest_of bytes))
blob_told a d bytes None is = tt
blob_told a d bytes (Some c) is = ap (option_map digest_of) is

lacks_told : (a : Admitted) (d : Digest) (told : Option Content) → IfSome told (λ c. blob_at c a.spec.from d ≡ None)
    → IfSome told (λ c. digest_at c a.spec.from kind.Blob d ≡ None)
lacks_told a d None is = tt
lacks_told a d (Some c) is = ap (option_map digest_of) is

-- the descriptor that is asked for says another size than was measured
unsized_by : (a : Admitted) (log : List Entry) (source dest : Reg) (w : Work) (d : Digest) (said got : ℕ) → WorkSeen a log w
    → AsksBlob w.walk.blobs w.walk.manifests d w.walk.opened → asked_size w.walk.opened ≡ Some said → got ≢ said
    → MeasuredFor a log d got → IsShown a log source dest (cause.SizeDiffers d said got)
unsized_by a log source dest w d said got seen asks asked other measured = at w.walk.opened refl asks asked
  where
    at : (opened : List Opened) → w.walk.opened ≡ opened → AsksBlob w.walk.blobs w.walk.manifests d opened
        → asked_size opened ≡ Some said → IsShown a log source dest (cause.SizeDiffers d said got)
    at [] e asks asked = absurd asks
    at (o ∷ below) e asks asked =
        let from : IsOpenedFrom (ReadFor a log) (MeasuredFor a log) w.walk.root o =
        (subst (λ (os : List Opened). AllByRecursion (IsOpenedFrom (ReadFor a log) (MeasuredFor a log) w.walk.root) os)
        e seen.read.opened).0 in
        let lists = asks.0 in
        let size : Some lists.child.size ≡ Some said =
        sym (ap (option_map (λ (x : _). x.size)) lists.listed) ∙ asked in
        record {
          root = w.walk.root;
          is_root = seen.root;
          unsized = record {
            parent = o.digest;
            there = (o.level, from.there);
            child = lists.child;
            listed = record {
              manifest = o.manifest;
              read = from.read;
              within = get_contains o.manifest.children o.next lists.child lists.listed;
            };
            digest_is = lists.digest_is;
            size_is = cc;
            known_len = subst (λ (k : ChildKind). HasLen (ReadFor a log) (MeasuredFor a log) k d got) (sym lists.kind) measured;
            other = λ e. other (sym e);
          };
        }

-- copy a blob
pub copy_seen : (a : Admitted) (w : Work) (d : Digest) (f g p q : Reg) (log after : List Entry) (end : LineEnd) → WorkSeen a log w
    → w.walk.need ≡ need.CopyBlob d → CopyLine a w d f g p q log after end → EndSeen a after g q end
copy_seen a w d f g p q log after end seen is line = at line.copied line.copies.ends line.ends
  where
    asks : AsksBlob w.walk.blobs w.walk.manifests d w.walk.opened
    asks = asked_as w (need.CopyBlob d) a log seen is

    got_later : (len : ℕ) (sure : Bool) → Says a (entry_of a (what.PutBlob d sure) ∷ entry_of a (what.GotBlob d len) ∷ log) (what.GotBlob d len)
    got_later len sure =
        says_later a (entry_of a (what.PutBlob d sure)) (entry_of a (what.GotBlob d len) ∷ log) (what.GotBlob d len)
        (says_now a log (what.GotBlob d len))

    at : (copied : Result ℕ NotCopied) → Ends a.spec.from a.spec.to d line.said f g p q copied
        → CopyEnds a w d line.said log after end copied → EndSeen a after g q end
    at (Ok len) copies ends =
        let now : WorkSeen a after w =
        subst (λ (l : List Entry). WorkSeen a l w) (sym ends.0)
        (work_later a (entry_of a (what.PutBlob d true)) (entry_of a (what.GotBlob d len) ∷ log) w
        (work_later a (entry_of a (what.GotBlob d len)) log w seen)) in
        let says : Says a after (what.GotBlob d len) =
        subst (λ (l : List Entry). Says a l (what.GotBlob d len)) (sym ends.0) (got_later len true) in
        goes_seen a after g q w (given.Copied len) end now
        (subst (λ (n : Need). Answers n (given.Copied len)) (sym is) tt)
        (subst (λ (n : Need). IsFromReading (ReadFor a after) (MeasuredFor a after) n (given.Copied len)) (sym is)
        (MeasuredFor.copied says)) ends.1
    at (Err copy.Gone) copies ends = ends_seen a log after g q _ end ends (record {
      what = kind.Blob;
      reached = blob_reached a log w d seen asks;
      told = lacks_told a d g.told copies.1;
    })
    at (Err (copy.Unopened x)) copies ends =
        ends_seen a log after g q _ end ends (failing_source a log g q f x copies.1 copies.2)
    at (Err (copy.Unbegun x)) copies ends =
        ends_seen a log after g q _ end ends (failing_dest a log g q p x copies.1.blames copies.1.no_length)
    at (Err (copy.Unread x)) copies ends =
        ends_seen a log after g q _ end ends (failing_source a log g q f x copies.1.blames copies.1.too_long)
    at (Err (copy.Unwritten x)) copies ends =
        ends_seen a log after g q _ end ends (failing_dest a log g q p x copies.1.blames copies.1.no_length)
    at (Err (copy.TooLong len)) copies ends =
        ends_seen a log after g q _ end ends (none_told a log g q len (blob_over len copies.1) (inl copies.2))
    at (Err (copy.Differs got)) copies ends = ends_seen a log after g q _ end ends (record {
      what = kind.Blob;
      reached = blob_reached a log w d seen asks;
      other = copies.1.other;
      told = subst (λ (x : Digest). IfSome g.told (λ c. digest_at c a.spec.from kind.Blob d ≡ Some x)) copies.1.is
          (blob_told a d copies.1.bytes g.told copies.1.all.told);
    })
    at (Err (copy.SizeDiffers got)) copies ends =
        let now : WorkSeen a after w =
        subst (λ (l : List Entry). WorkSeen a l w) (sym ends.0) (work_later a (entry_of a (what.GotBlob d got)) log w seen) in
        let says : Says a after (what.GotBlob d got) =
        subst (λ (l : List Entry). Says a l (what.GotBlob d got)) (sym ends.0) (says_now a log (what.GotBlob d got)) in
        subst (λ (x : LineEnd). EndSeen a after g q x) (sym ends.1)
        (unsized_by a after g q w d line.said got now asks line.asked copies.1.other (MeasuredFor.copied says))
    at (Err (copy.Unsure len x)) copies ends =
        subst (λ (e : LineEnd). EndSeen a after g q e) (sym ends.1)
        (failing_dest a after g q p x copies.1 copies.2)

-- ---- puts

-- what is put was read, and is no longer than a manifest may be
put_short : (a : Admitted) (log : List Entry) (w : Work) (d : Digest) (parts : Parts) → WorkSeen a log w
    → w.walk.need ≡ need.PutManifest d → newest_manifest w.walk.need w.walk.opened ≡ Some parts
    → length parts.bytes ≤ MANIFEST_LIMIT
put_short a log w d parts seen is newest =
    at w.walk.opened refl
    (ap (λ (n : Need). newest_manifest n w.walk.opened) (sym is) ∙ newest)
  where
    at : (opened : List Opened) → w.walk.opened ≡ opened → newest_manifest (need.PutManifest d) w.walk.opened ≡ Some parts
        → length parts.bytes ≤ MANIFEST_LIMIT
    at [] e n = let none : newest_manifest (need.PutManifest d) [] ≡ Some parts = ap (newest_manifest (need.PutManifest d)) (sym e) ∙ n in cc
    at (o ∷ below) e n =
        let found : Some o.manifest ≡ Some parts = ap (newest_manifest (need.PutManifest d)) (sym e) ∙ n in
        let from : IsOpenedFrom (ReadFor a log) (MeasuredFor a log) w.walk.root o =
        (subst (λ (os : List Opened). AllByRecursion (IsOpenedFrom (ReadFor a log) (MeasuredFor a log) w.walk.root) os)
        e seen.read.opened).0 in
        let same : o.manifest ≡ parts = cc in
        subst (λ (m : Parts). length m.bytes ≤ MANIFEST_LIMIT) same
        (reads_short o.manifest.media o.manifest.bytes o.manifest.children from.read.reads)

put_fault : (a : Admitted) (log : List Entry) (source before dest : Reg) (reference : _) (parts : Parts) (fault : RegFault)
    → length parts.bytes ≤ MANIFEST_LIMIT → PutsManifest a.spec.to reference parts.media parts.bytes before dest (Err fault)
    → IsShown a log source dest (fault_cause fault a.spec.dst before.faults dest.faults)
put_fault a log source before dest reference parts why.Failed short puts =
    dest_fault a log source dest before.faults dest.faults (puts.left.failed refl) (le_itself dest.faults)
put_fault a log source before dest reference parts (why.TooLong len) short puts =
    let long = puts.too_long len refl in absurd (let over = long.0 in let same = long.1 in omega (arith, over, same, short))
put_fault a log source before dest reference parts why.Memory short puts = tt

-- put a child under its digest
pub put_seen : (a : Admitted) (w : Work) (d : Digest) (g p q : Reg) (log after : List Entry) (end : LineEnd) → WorkSeen a log w
    → w.walk.need ≡ need.PutManifest d → PutLine a w d p q log after end → EndSeen a after g q end
put_seen a w d g p q log after end seen is line = at line.put line.puts line.stores
  where
    at : (put : Result ⊤ RegFault) → PutsManifest a.spec.to (by.Digest d) line.parts.media line.parts.bytes p q put
        → ChildStored a w d p q log after end put → EndSeen a after g q end
    at (Ok done) puts stores =
        goes_seen a after g q w given.Put end
        (subst (λ (l : List Entry). WorkSeen a l w) (sym stores.0) (work_later a (entry_of a (what.PutChild d true)) log w seen))
        (subst (λ (n : Need). Answers n given.Put) (sym is) tt)
        (subst (λ (n : Need). IsFromReading (ReadFor a after) (MeasuredFor a after) n given.Put) (sym is) tt) stores.1
    at (Err fault) puts stores =
        subst (λ (e : LineEnd). EndSeen a after g q e) (sym stores.1)
        (put_fault a after g p q (by.Digest d) line.parts fault (put_short a log w d line.parts seen is line.newest) puts)

-- put the root under its tag
pub root_seen : (a : Admitted) (tag : TagName) (w : Work) (d : Digest) (g p q : Reg) (log after : List Entry) (end : LineEnd)
    → WorkSeen a log w → w.walk.need ≡ need.PutManifest d → RootLine a tag w p q log after end → EndSeen a after g q end
root_seen a tag w d g p q log after end seen is line = at line.found line.asks line.finds
  where
    stored : (found : Option Digest) (parts : Parts) → newest_manifest w.walk.need w.walk.opened ≡ Some parts
        → (put : Result ⊤ RegFault) → PutsManifest a.spec.to (by.Tag tag) parts.media parts.bytes line.mid q put
        → RootStored a tag w.walk.root found line.mid q log after end put → EndSeen a after g q end
    stored found parts newest (Ok done) puts stores = subst (λ (e : LineEnd). EndSeen a after g q e) (sym stores.1) tt
    stored found parts newest (Err fault) puts stores =
        subst (λ (e : LineEnd). EndSeen a after g q e) (sym stores.1)
        (put_fault a after g line.mid q (by.Tag tag) parts fault (put_short a log w d parts seen is newest) puts)

    decided : (found : Option Digest) (how : _) → RootDecided a tag w found line.mid q log after end how
        → EndSeen a after g q end
    decided found None puts = stored found puts.parts puts.newest puts.put puts.puts puts.stores
    decided found (Some how) ends = subst (λ (e : LineEnd). EndSeen a after g q e) (sym ends.2) tt

    at : (found : Result (Option Digest) RegFault) → Heads a.spec.to (by.Tag tag) p line.mid found
        → RootLooked a tag w p line.mid q log after end found → EndSeen a after g q end
    at (Err fault) asks ends =
        ends_seen a log after g q _ end ends.1
        (subst (λ (x : Reg). IsShown a log g x (fault_cause fault a.spec.dst p.faults line.mid.faults)) (sym ends.0)
        (head_fault a tag log g p line.mid fault asks))
    at (Ok found) asks finds = decided found (decide found w.walk.root a.spec.override_it) finds
