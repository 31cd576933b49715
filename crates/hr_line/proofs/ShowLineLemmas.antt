-- Each line finishes a tag only as it was read, and as the look just before decides.
use Rattle.std.proofs.Common.{◌≡◌, refl, sym, ap, subst, ◌∙◌, ℕ, Bool, true, false, List, ◌∷◌}
use Rattle.std.specs.Prelude.{◌≢◌, Option, Some, None, IfSome, Contains, Result, Ok, Err, ⊤}
use Rattle.hr_digest.specs.Digest.{digest_of}
use Rattle.hr_digest.specs.Order.{digest_eq}
use Rattle.hr_digest.specs.declared.digest.Digest.{Digest}
use Rattle.hr_name.specs.Tag.{TagName}
use Rattle.hr_event.specs.declared.cause.Cause.{Cause}
use Rattle.hr_event.specs.declared.entry.Entry.{Entry}
use Rattle.hr_event.specs.declared.entry.How.{How}
use Rattle.hr_event.specs.declared.entry.How.TheVariants.{Put, Unsure, Same, Kept}
use Rattle.hr_event.specs.declared.entry.What.{What}
use Rattle.hr_event.specs.declared.entry.What.TheVariants as what
use Rattle.hr_event.specs.declared.reference.Fetched.{Fetched}
use Rattle.hr_manifest.specs.Manifest.{Parts}
use Rattle.hr_manifest.specs.declared.refusal.Unreadable.{Unreadable}
use Rattle.hr_graph.specs.Sound.{IsSound}
use Rattle.hr_graph.specs.Walk.{Answers, View}
use Rattle.hr_graph.specs.declared.need.Given.{Given}
use Rattle.hr_graph.specs.declared.need.Given.TheVariants as given
use Rattle.hr_graph.specs.declared.need.Need.{Need}
use Rattle.hr_graph.specs.declared.need.Need.TheVariants as need
use Rattle.hr_graph.specs.declared.need.WalkRefused.{WalkRefused}
use Rattle.hr_graph.proofs.WalkLaws.{begun_root, root_stays}
use Rattle.hr_adapter.specs.Reg.{Reg}
use Rattle.hr_adapter.specs.declared.fault.RegFault.{RegFault}
use Rattle.hr_blob.specs.declared.outcome.NotCopied.{NotCopied}
use Rattle.hr_blob.specs.declared.outcome.NotCopied.TheVariants as copy
use Rattle.hr_line.specs.Line.{BlobAsked, ChildCompared, ChildFetched, ChildGoes, ChildStored, CopyEnds, EndsBy, IsBeginning, IsReading, IsTaking, LineEnd, LookEnds, LookFound, RootDecided, RootGoes, RootLooked, RootStored, TagFetched, WalkBegins, WorkGoes, decide, decided_by, entry_of, walked}
use Rattle.hr_line.specs.Orderly.{admitted_at}
use Rattle.hr_line.specs.Shows.{Decides, RootRead, SaysShow, ShowsHold}
use Rattle.hr_line.specs.Step.{Line, StoreLine, WalkLine, WorkLine}
use Rattle.hr_line.specs.declared.held.Admitted.{Admitted}
use Rattle.hr_line.specs.declared.held.Work.{Work}
use Rattle.hr_line.proofs.CalmLemmas.{digest_apart, digest_same, look_other}
use Rattle.hr_line.proofs.EvidenceLemmas.{says_later, says_now}

-- ---- what a look decides

decides_by : (same replaces : Bool) (d root : Digest) (how : How) → digest_eq d root ≡ same → decided_by same replaces ≡ Some how
    → Decides replaces root (Some d) how
decides_by true replaces d root how is decides =
    subst (λ (h : How). Decides replaces root (Some d) h) (let e : Same ≡ how = cc in e) (ap Some (digest_same d root is))
decides_by false true d root how is decides = cc
decides_by false false d root how is decides =
    subst (λ (h : How). Decides false root (Some d) h) (let e : Kept ≡ how = cc in e)
    ((λ e. digest_apart d root is (let f : d ≡ root = cc in f)), (λ e. cc), refl)

look_decides : (found : Option Digest) (root : Digest) (replaces : Bool) (how : How) → decide found root replaces ≡ Some how
    → Decides replaces root found how
look_decides None root replaces how decides = cc
look_decides (Some d) root replaces how decides = decides_by (digest_eq d root) replaces d root how refl decides

replaces_by : (same replaces : Bool) (d : Digest) → decided_by same replaces ≡ None → replaces ≡ false → Some d ≡ None
replaces_by true replaces d decides kept = cc
replaces_by false true d decides kept = cc
replaces_by false false d decides kept = cc

-- a look that doesn't decide leads to a put
look_puts : (found : Option Digest) (root : Digest) (replaces : Bool) → decide found root replaces ≡ None
    → (found ≢ Some root) × (replaces ≡ false → found ≡ None)
look_puts None root replaces decides = (look_other None root replaces decides, λ kept. refl)
look_puts (Some d) root replaces decides =
    (look_other (Some d) root replaces decides, λ kept. replaces_by (digest_eq d root) replaces d decides kept)

-- ---- entries

-- an entry that finishes no tag
abbrev ShowsNone : What → Type 0
ShowsNone (what.Show tag d old how) = ⊥
ShowsNone _ = ⊤

says_none : (a : Admitted) (older : List Entry) (said : What) → ShowsNone said → SaysShow a older said
says_none a older (what.Show tag d old how) none = absurd none
says_none a older said none = tt

if_none : (found : Option Admitted) (older : List Entry) (said : What) → ShowsNone said → IfSome found (λ a. SaysShow a older said)
if_none None older said none = tt
if_none (Some a) older said none = says_none a older said none

pub shows_still : (all : List Admitted) (a : Admitted) (said : What) (log : List Entry) → ShowsNone said → ShowsHold all log
    → ShowsHold all (entry_of a said ∷ log)
shows_still all a said log none holds = (if_none (admitted_at all a.job.0 a.rev) log said none, holds)

pub root_later : (a : Admitted) (e : Entry) (log : List Entry) (tag : TagName) (d : Digest) → RootRead a log tag d
    → RootRead a (e ∷ log) tag d
root_later a e log tag d read = record {
  m = read.m;
  kids = read.kids;
  says = says_later a e log (what.ReadTag tag read.m.media read.m.bytes) read.says;
  own = read.own;
  reads = read.reads;
}

-- the work that goes on is on the manifest that was read under the tag
abbrev pub EndRead : Admitted → TagName → List Entry → LineEnd → Type 0
EndRead a tag log (Ok (Some w)) = RootRead a log tag w.walk.root
EndRead a tag log _ = ⊤

-- what a line leaves
pub record LineShows (all : List Admitted) (a : Admitted) (tag : TagName) (after : List Entry) (end : LineEnd) : Type 0 where
  pub logged : ShowsHold all after
  pub goes : EndRead a tag after end

module _ (all : List Admitted) (a : Admitted) (tag : TagName) (admitted : admitted_at all a.job.0 a.rev ≡ Some a)
    (named : Contains a.spec.tags tag) (log after : List Entry) (end : LineEnd) (holds : ShowsHold all log) where
  made : (newer : List Entry) (now : LineEnd) → after ≡ newer → end ≡ now → ShowsHold all newer → EndRead a tag newer now
      → LineShows all a tag after end
  made newer now writes ends logged goes =
      subst (λ (es : List Entry). LineShows all a tag es end) (sym writes)
      (subst (λ (e : LineEnd). LineShows all a tag newer e) (sym ends) (record { logged = logged; goes = goes }))

  by_cause : (cause : Cause) → EndsBy cause log after end → LineShows all a tag after end
  by_cause cause ends = made log (Err cause) ends.0 ends.1 holds tt

  one : (said : What) (now : LineEnd) → ShowsNone said → after ≡ entry_of a said ∷ log → end ≡ now
      → EndRead a tag (entry_of a said ∷ log) now → LineShows all a tag after end
  one said now none writes ends goes = made (entry_of a said ∷ log) now writes ends (shows_still all a said log none holds) goes

  -- a tag was finished, after these entries
  shown : (older : List Entry) (d : Digest) (old : Option Digest) (how : How) (now : LineEnd) → ShowsHold all older
      → RootRead a older tag d → Decides a.spec.override_it d old how → after ≡ entry_of a (what.Show tag d old how) ∷ older → end ≡ now
      → EndRead a tag (entry_of a (what.Show tag d old how) ∷ older) now → LineShows all a tag after end
  shown older d old how now had read decides writes ends goes =
      made (entry_of a (what.Show tag d old how) ∷ older) now writes ends (
        subst (λ (x : Option Admitted). IfSome x (λ b. SaysShow b older (what.Show tag d old how))) (sym admitted) (named, read, decides),
        had,
      ) goes

  -- work goes on
  goes_on : (w : Work) (g : Given) (said : What) → IsSound w.walk → Answers w.walk.need g → RootRead a log tag w.walk.root
      → ShowsNone said → after ≡ entry_of a said ∷ log → WorkGoes w g end → LineShows all a tag after end
  goes_on w g said sound answers read none writes goes = by goes.walk goes.takes goes.is
    where
      by : (walk : Result View WalkRefused) → IsTaking w.walk g walk → end ≡ walked w.looked walk → LineShows all a tag after end
      by (Ok new) takes is =
          one said (Ok (Some (record { looked = w.looked; walk = new }))) none writes is
          (subst (λ (d : Digest). RootRead a (entry_of a said ∷ log) tag d) (sym (root_stays w.walk new g sound answers takes))
          (root_later a (entry_of a said) log tag w.walk.root read))
      by (Err why) takes is = one said _ none writes is tt

  -- ---- a tag is read

  began : (m : Fetched) (parts : Parts) → parts.media ≡ m.media → parts.bytes ≡ m.bytes → IsReading m (Ok parts)
      → after ≡ entry_of a (what.ReadTag tag m.media m.bytes) ∷ log → WalkBegins (digest_of m.bytes) parts end
      → LineShows all a tag after end
  began m parts media bytes reads writes begins = by begins.walk begins.begins begins.is
    where
      by : (walk : Result View WalkRefused) → IsBeginning (digest_of m.bytes) parts walk → end ≡ walked false walk
          → LineShows all a tag after end
      by (Ok new) begun is =
          one (what.ReadTag tag m.media m.bytes) (Ok (Some (record { looked = false; walk = new }))) tt writes is
          (subst (λ (d : Digest). RootRead a (entry_of a (what.ReadTag tag m.media m.bytes) ∷ log) tag d)
          (sym (begun_root (digest_of m.bytes) parts new begun)) (record {
            m = m;
            kids = parts.children;
            says = says_now a log (what.ReadTag tag m.media m.bytes);
            own = refl;
            reads = reads.2;
          }))
      by (Err why) begun is = one (what.ReadTag tag m.media m.bytes) _ tt writes is tt

  root_goes : (m : Fetched) (reading : Result Parts Unreadable) → IsReading m reading
      → after ≡ entry_of a (what.ReadTag tag m.media m.bytes) ∷ log → RootGoes (digest_of m.bytes) reading end
      → LineShows all a tag after end
  root_goes m (Ok parts) reads writes begins = began m parts reads.0 reads.1 reads writes begins
  root_goes m (Err refused) reads writes is = one (what.ReadTag tag m.media m.bytes) _ tt writes is tt

  tag_shows : (f g : Reg) (fetched : Result (Option Fetched) RegFault) → TagFetched a tag f g log after end fetched
      → LineShows all a tag after end
  tag_shows f g (Ok (Some m)) came = root_goes m came.reading came.reads came.writes came.goes
  tag_shows f g (Ok None) ends = by_cause _ ends
  tag_shows f g (Err fault) ends = by_cause _ ends

  -- ---- with work

  module _ (w : Work) (sound : IsSound w.walk) (read : RootRead a log tag w.walk.root) where
    look_shows : (found : Option Digest) (how : Option How) → decide found w.walk.root a.spec.override_it ≡ how
        → LookEnds a tag w found log after end how → LineShows all a tag after end
    look_shows found None is ends =
        one (what.Looked tag found) (Ok (Some (record w { looked = true }))) tt ends.0 ends.1
        (root_later a (entry_of a (what.Looked tag found)) log tag w.walk.root read)
    look_shows found (Some how) is ends =
        shown (entry_of a (what.Looked tag found) ∷ log) w.walk.root found how (Ok None)
        (shows_still all a (what.Looked tag found) log tt holds)
        (root_later a (entry_of a (what.Looked tag found)) log tag w.walk.root read)
        (look_decides found w.walk.root a.spec.override_it how is) ends.0 ends.1 tt

    looked_shows : (p q : Reg) (found : Result (Option Digest) RegFault) → LookFound a tag w p q log after end found
        → LineShows all a tag after end
    looked_shows p q (Ok found) finds = look_shows found (decide found w.walk.root a.spec.override_it) refl finds
    looked_shows p q (Err fault) ends = by_cause _ ends

    child_goes : (d : Digest) (m : Fetched) → w.walk.need ≡ need.Manifest d → digest_of m.bytes ≡ d → (reading : Result Parts Unreadable)
        → IsReading m reading → after ≡ entry_of a (what.ReadChild d m.media m.bytes) ∷ log → ChildGoes w d reading end
        → LineShows all a tag after end
    child_goes d m is own (Ok parts) reads writes goes =
        goes_on w (given.Manifest parts) (what.ReadChild d m.media m.bytes) sound
        (subst (λ (n : Need). Answers n (given.Manifest parts)) (sym is) (ap digest_of reads.1 ∙ own)) read tt writes goes
    child_goes d m is own (Err refused) reads writes ends = one (what.ReadChild d m.media m.bytes) _ tt writes ends tt

    compared_shows : (d : Digest) (m : Fetched) → w.walk.need ≡ need.Manifest d → (same : Bool) → digest_eq (digest_of m.bytes) d ≡ same
        → ChildCompared same a w d m log after end → LineShows all a tag after end
    compared_shows d m is true own came =
        child_goes d m is (digest_same (digest_of m.bytes) d own) came.reading came.reads came.writes came.goes
    compared_shows d m is false other ends = by_cause _ ends

    child_shows : (d : Digest) (f g : Reg) → w.walk.need ≡ need.Manifest d → (fetched : Result (Option Fetched) RegFault)
        → ChildFetched a w d f g log after end fetched → LineShows all a tag after end
    child_shows d f g is (Ok (Some m)) came = compared_shows d m is (digest_eq (digest_of m.bytes) d) refl came
    child_shows d f g is (Ok None) ends = by_cause _ ends
    child_shows d f g is (Err fault) ends = by_cause _ ends

    blob_shows : (d : Digest) (p q : Reg) → w.walk.need ≡ need.HasBlob d → (found : Result (Option ℕ) RegFault)
        → BlobAsked a w d p q log after end found → LineShows all a tag after end
    blob_shows d p q is (Ok len) found =
        goes_on w (given.Found len) (what.HasBlob d len) sound (subst (λ (n : Need). Answers n (given.Found len)) (sym is) tt) read tt
        found.writes found.goes
    blob_shows d p q is (Err fault) ends = by_cause _ ends

    put_shows : (d : Digest) (p q : Reg) → w.walk.need ≡ need.PutManifest d → (put : Result ⊤ RegFault)
        → ChildStored a w d p q log after end put → LineShows all a tag after end
    put_shows d p q is (Ok done) stores =
        goes_on w given.Put (what.PutChild d true) sound (subst (λ (n : Need). Answers n given.Put) (sym is) tt) read tt stores.0 stores.1
    put_shows d p q is (Err fault) stores = one (what.PutChild d false) _ tt stores.0 stores.1 tt

    stored_shows : (found : Option Digest) (mid q : Reg) → decide found w.walk.root a.spec.override_it ≡ None → (put : Result ⊤ RegFault)
        → RootStored a tag w.walk.root found mid q log after end put → LineShows all a tag after end
    stored_shows found mid q is (Ok done) stores =
        shown log w.walk.root found Put (Ok None) holds read (look_puts found w.walk.root a.spec.override_it is) stores.0 stores.1 tt
    stored_shows found mid q is (Err fault) stores =
        shown log w.walk.root found Unsure _ holds read (look_puts found w.walk.root a.spec.override_it is) stores.0 stores.1 tt

    decided_shows : (found : Option Digest) (mid q : Reg) (how : Option How) → decide found w.walk.root a.spec.override_it ≡ how
        → RootDecided a tag w found mid q log after end how → LineShows all a tag after end
    decided_shows found mid q None is puts = stored_shows found mid q is puts.put puts.stores
    decided_shows found mid q (Some how) is ends =
        shown log w.walk.root found how (Ok None) holds read (look_decides found w.walk.root a.spec.override_it how is) ends.1 ends.2 tt

    root_shows : (p mid q : Reg) (found : Result (Option Digest) RegFault) → RootLooked a tag w p mid q log after end found
        → LineShows all a tag after end
    root_shows p mid q (Ok found) finds = decided_shows found mid q (decide found w.walk.root a.spec.override_it) refl finds
    root_shows p mid q (Err fault) ends = by_cause _ ends.1

    store_shows : (d : Digest) (p q : Reg) → w.walk.need ≡ need.PutManifest d → (root : Bool) → StoreLine root a tag w d p q log after end
        → LineShows all a tag after end
    store_shows d p q is true line = root_shows p line.mid q line.found line.finds
    store_shows d p q is false line = put_shows d p q is line.put line.stores

module _ (all : List Admitted) (a : Admitted) (tag : TagName) (admitted : admitted_at all a.job.0 a.rev ≡ Some a)
    (named : Contains a.spec.tags tag) (log after : List Entry) (end : LineEnd) (holds : ShowsHold all log) where
  -- a blob came, and then an entry of how it was put
  two : (d : Digest) (len : ℕ) (said : What) (now : LineEnd) → ShowsNone said
      → after ≡ entry_of a said ∷ entry_of a (what.GotBlob d len) ∷ log → end ≡ now
      → EndRead a tag (entry_of a said ∷ entry_of a (what.GotBlob d len) ∷ log) now → LineShows all a tag after end
  two d len said now none writes ends goes =
      one all a tag admitted named (entry_of a (what.GotBlob d len) ∷ log) after end
      (shows_still all a (what.GotBlob d len) log tt holds) said now none writes ends goes

  module _ (w : Work) (sound : IsSound w.walk) (read : RootRead a log tag w.walk.root) where
    copy_shows : (d : Digest) (said : ℕ) → w.walk.need ≡ need.CopyBlob d → (copied : Result ℕ NotCopied)
        → CopyEnds a w d said log after end copied → LineShows all a tag after end
    copy_shows d said is (Ok len) ends =
        goes_on all a tag admitted named (entry_of a (what.GotBlob d len) ∷ log) after end
        (shows_still all a (what.GotBlob d len) log tt holds) w (given.Copied len) (what.PutBlob d true) sound
        (subst (λ (n : Need). Answers n (given.Copied len)) (sym is) tt)
        (root_later a (entry_of a (what.GotBlob d len)) log tag w.walk.root read) tt ends.0 ends.1
    copy_shows d said is (Err copy.Gone) ends = by_cause all a tag admitted named log after end holds _ ends
    copy_shows d said is (Err (copy.Unopened f)) ends = by_cause all a tag admitted named log after end holds _ ends
    copy_shows d said is (Err (copy.Unbegun f)) ends = by_cause all a tag admitted named log after end holds _ ends
    copy_shows d said is (Err (copy.Unread f)) ends = by_cause all a tag admitted named log after end holds _ ends
    copy_shows d said is (Err (copy.Unwritten f)) ends = by_cause all a tag admitted named log after end holds _ ends
    copy_shows d said is (Err (copy.TooLong len)) ends = by_cause all a tag admitted named log after end holds _ ends
    copy_shows d said is (Err (copy.Differs got)) ends = by_cause all a tag admitted named log after end holds _ ends
    copy_shows d said is (Err (copy.SizeDiffers got)) ends =
        one all a tag admitted named log after end holds (what.GotBlob d got) _ tt ends.0 ends.1 tt
    copy_shows d said is (Err (copy.Unsure len f)) ends = two d len (what.PutBlob d false) _ tt ends.0 ends.1 tt

    walk_shows : (f g p q : Reg) (x : Need) → w.walk.need ≡ x → WalkLine x a tag w f g p q log after end → LineShows all a tag after end
    walk_shows f g p q (need.Manifest d) is line =
        child_shows all a tag admitted named log after end holds w sound read d f g is line.1.fetched line.1.comes
    walk_shows f g p q (need.HasBlob d) is line =
        blob_shows all a tag admitted named log after end holds w sound read d p q is line.1.found line.1.finds
    walk_shows f g p q (need.CopyBlob d) is line = copy_shows d line.said is line.copied line.ends
    walk_shows f g p q (need.PutManifest d) is line =
        store_shows all a tag admitted named log after end holds w sound read d p q is (digest_eq d w.walk.root) line.1
    walk_shows f g p q need.Done is line = absurd line

    work_shows : (f g p q : Reg) (looked : Bool) → WorkLine looked a tag w f g p q log after end → LineShows all a tag after end
    work_shows f g p q true line = walk_shows f g p q w.walk.need refl line
    work_shows f g p q false line =
        looked_shows all a tag admitted named log after end holds w sound read p q line.1.found line.1.finds

  -- each line finishes a tag only so
  pub line_shows : (work : Option Work) (f g p q : Reg) → IfSome work (λ w. IsSound w.walk × RootRead a log tag w.walk.root)
      → Line a tag work f g p q log after end → LineShows all a tag after end
  line_shows None f g p q had line = tag_shows all a tag admitted named log after end holds f g line.1.fetched line.1.comes
  line_shows (Some w) f g p q had line = work_shows w had.0 had.1 f g p q w.looked line
