-- Each line of a step's table has evidence for its end.
use Rattle.std.proofs.Common.{◌≡◌, ◌≢◌, ◌⊎◌, inl, inr, refl, sym, ap, subst, ◌∙◌, ℕ, ◌≤◌, List, ◌∷◌, length, arith}
use Rattle.std.specs.Prelude.{Option, Some, None, IfSome, Contains, Result, Ok, Err, option_map}
use Rattle.hr_base.specs.declared.limit.TheConstants.{MANIFEST_LIMIT}
use Rattle.hr_digest.specs.Digest.{digest_of}
use Rattle.hr_digest.specs.declared.digest.Digest.{Digest}
use Rattle.hr_name.specs.Tag.{TagName}
use Rattle.hr_event.specs.declared.entry.Entry.{Entry}
use Rattle.hr_event.specs.declared.entry.What.TheVariants as what
use Rattle.hr_event.specs.declared.reference.Fetched.{Fetched}
use Rattle.hr_event.specs.declared.reference.Reference.TheVariants as by
use Rattle.hr_manifest.specs.Manifest.{Parts}
use Rattle.hr_manifest.specs.Reading.{Reads, reading_of}
use Rattle.hr_manifest.specs.declared.refusal.Unreadable.{Unreadable}
use Rattle.hr_manifest.specs.declared.refusal.Unreadable.TheVariants as form
use Rattle.hr_adapter.specs.Calls.{Fetches}
use Rattle.hr_adapter.specs.Content.{Content, fetch_at}
use Rattle.hr_adapter.specs.Reg.{IsSound, Reg, Row, AreShown}
use Rattle.hr_adapter.specs.declared.fault.RegFault.{RegFault}
use Rattle.hr_adapter.specs.declared.fault.RegFault.TheVariants as why
use Rattle.hr_line.specs.Cause.{fault_cause, form_cause}
use Rattle.hr_line.specs.Evidence.{IsLengthOf, IsShown, ReadSome, Says}
use Rattle.hr_line.specs.Kept.{EndSeen}
use Rattle.hr_line.specs.Line.{EndsBy, IsReading, LineEnd, RootGoes, TagFetched, TagLine, entry_of}
use Rattle.hr_line.specs.declared.held.Admitted.{Admitted}
use Rattle.hr_line.proofs.EvidenceLemmas.{begins_seen, says_now}
use Rattle.hr_manifest.proofs.ReadingLaws.{refuses_long}

-- ---- ends by a cause

pub ends_seen : (a : Admitted) (log after : List Entry) (source dest : Reg) (c : _) (end : LineEnd) → EndsBy c log after end
    → IsShown a log source dest c → EndSeen a after source dest end
ends_seen a log after source dest c end ends shown =
    subst (λ (x : LineEnd). EndSeen a after source dest x) (sym ends.1)
    (subst (λ (l : List Entry). IsShown a l source dest c) (sym ends.0) shown)

form_or : (why : Unreadable) → (why ≡ Unreadable.Memory) ⊎ (why ≢ Unreadable.Memory)
form_or (form.TooLong len) = inr (λ e. cc)
form_or form.Media = inr (λ e. cc)
form_or form.NotJson = inr (λ e. cc)
form_or (form.Field name) = inr (λ e. cc)
form_or (form.TooMany count) = inr (λ e. cc)
form_or form.Memory = inl refl

-- a manifest that was read and is refused shows the cause
pub form_shown : (a : Admitted) (log : List Entry) (source dest : Reg) (m : Fetched) (d : Digest) (w : Unreadable)
    → ReadSome a log m → digest_of m.bytes ≡ d → length m.bytes ≤ MANIFEST_LIMIT → IsReading m (Err w)
    → IsShown a log source dest (form_cause w d)
form_shown a log source dest m d (form.TooLong len) read own short refused =
    let long = refuses_long m.media m.bytes len (refused (λ e. cc)) in
    absurd (let same = long.0 in let over = long.1 in omega (arith, same, over, short))
form_shown a log source dest m d form.Media read own short refused =
    record { m = m; read = read; own = own; why = form.Media; is_form = tt; refused = refused (λ e. cc) }
form_shown a log source dest m d form.NotJson read own short refused =
    record { m = m; read = read; own = own; why = form.NotJson; is_form = tt; refused = refused (λ e. cc) }
form_shown a log source dest m d (form.Field name) read own short refused =
    record { m = m; read = read; own = own; why = form.Field name; is_form = tt; refused = refused (λ e. cc) }
form_shown a log source dest m d (form.TooMany count) read own short refused =
    inl (record { m = m; read = read; refused = refused (λ e. cc) })
form_shown a log source dest m d form.Memory read own short refused = tt

-- ---- the tag

-- what a tag showed, by the rows of a sound connection
tag_length : (a : Admitted) (tag : TagName) (log : List Entry) (c : Content) (ever : List Row) (len : ℕ) → Contains a.spec.tags tag
    → AreShown c ever → (o : Option Fetched) → fetch_at c a.spec.from (by.Tag tag) ≡ o
    → option_map (λ m. length m.bytes) o ≡ Some len → IsLengthOf a log c ever len
tag_length a tag log c ever len named shown (Some m) is long =
    IsLengthOf.tagged (record { repo = a.spec.from; tag = tag; media = m.media; bytes = m.bytes })
    (subst (λ (o : Option Fetched). IfSome o (λ m. Contains ever (record { repo = a.spec.from; tag = tag; media = m.media; bytes = m.bytes })))
    is (shown a.spec.from tag)) refl named cc
tag_length a tag log c ever len named shown None is long = cc

told_length : (a : Admitted) (tag : TagName) (log : List Entry) (g q : Reg) (len : ℕ) → Contains a.spec.tags tag → IsSound g
    → (told : Option Content) → g.told ≡ told
    → IfSome told (λ c. option_map (λ m. length m.bytes) (fetch_at c a.spec.from (by.Tag tag)) ≡ Some len)
    → (other : Option Content) → IfSome told (λ c. IfSome other (λ _. IsLengthOf a log c g.ever len))
told_length a tag log g q len named sound None is long other = tt
told_length a tag log g q len named sound (Some c) is long None = tt
told_length a tag log g q len named sound (Some c) is long (Some d) =
    tag_length a tag log c g.ever len named
    (subst (λ (o : Option Content). IfSome o (λ c. AreShown c g.ever)) is sound.shown)
    (fetch_at c a.spec.from (by.Tag tag)) refl long

tag_fault : (a : Admitted) (tag : TagName) (log : List Entry) (f g q : Reg) (fault : RegFault) → Contains a.spec.tags tag → IsSound g
    → Fetches a.spec.from (by.Tag tag) f g (Err fault) → IsShown a log g q (fault_cause fault a.spec.src f.faults g.faults)
tag_fault a tag log f g q why.Failed named sound asks =
    record { rose = asks.asks.left.failed refl; whose = inl (refl, omega arith) }
tag_fault a tag log f g q (why.TooLong len) named sound asks =
    let long = asks.too_long len refl in
    record { over = long.0; told = told_length a tag log g q len named sound g.told refl long.1 q.told }
tag_fault a tag log f g q why.Memory named sound asks = tt

root_goes : (a : Admitted) (tag : TagName) (log after : List Entry) (g q : Reg) (m : Fetched) (end : LineEnd)
    → after ≡ entry_of a (what.ReadTag tag m.media m.bytes) ∷ log → length m.bytes ≤ MANIFEST_LIMIT
    → (reading : Result Parts Unreadable) → IsReading m reading → RootGoes (digest_of m.bytes) reading end
    → EndSeen a after g q end
root_goes a tag log after g q m end writes short (Err w) reads goes =
    subst (λ (x : LineEnd). EndSeen a after g q x) (sym goes)
    (form_shown a after g q m (digest_of m.bytes) w
    (ReadSome.tagged tag (subst (λ (l : List Entry). Says a l (what.ReadTag tag m.media m.bytes)) (sym writes)
    (says_now a log (what.ReadTag tag m.media m.bytes)))) refl short reads)
root_goes a tag log after g q m end writes short (Ok parts) reads goes =
    let says : Says a after (what.ReadTag tag m.media m.bytes) =
    subst (λ (l : List Entry). Says a l (what.ReadTag tag m.media m.bytes)) (sym writes)
    (says_now a log (what.ReadTag tag m.media m.bytes)) in
    begins_seen a after g q (digest_of m.bytes) parts end
    (record { tag = tag; m = m; says = says; own = refl })
    (ap digest_of reads.1)
    (record {
      read = subst (λ (x : Fetched). ReadSome a after x) (fetched_is m parts (sym reads.0) (sym reads.1)) (ReadSome.tagged tag says);
      own = ap digest_of reads.1;
      reads = reads_as m parts reads.0 reads.1 reads.2;
    })
    goes
  where
    fetched_is : (m : Fetched) (parts : Parts) → m.media ≡ parts.media → m.bytes ≡ parts.bytes
        → m ≡ record { media = parts.media; bytes = parts.bytes }
    fetched_is m parts media bytes =
        ap (λ (x : _). record m { media = x }) media ∙ ap (λ (y : _). record { media = parts.media; bytes = y }) bytes

    reads_as : (m : Fetched) (parts : Parts) → parts.media ≡ m.media → parts.bytes ≡ m.bytes
        → Reads m.media m.bytes parts.children → Reads parts.media parts.bytes parts.children
    reads_as m parts media bytes reads =
        ap (λ (x : _). reading_of x parts.bytes) media ∙ ap (λ (y : _). reading_of m.media y) bytes ∙ reads

-- read the tag at the source
pub tag_seen : (a : Admitted) (tag : TagName) (f g q : Reg) (log after : List Entry) (end : LineEnd) → Contains a.spec.tags tag
    → IsSound g → TagLine a tag f g log after end → EndSeen a after g q end
tag_seen a tag f g q log after end named sound line = at line.fetched line.asks line.comes
  where
    at : (fetched : Result (Option Fetched) RegFault) → Fetches a.spec.from (by.Tag tag) f g fetched
        → TagFetched a tag f g log after end fetched → EndSeen a after g q end
    at (Err fault) asks ends = ends_seen a log after g q _ end ends (tag_fault a tag log f g q fault named sound asks)
    at (Ok None) asks ends = ends_seen a log after g q _ end ends named
    at (Ok (Some m)) asks came = root_goes a tag log after g q m end came.writes asks.short came.reading came.reads came.goes
