-- The walk of a work that goes on after a line, goes on.
use Rattle.std.proofs.Common.{◌≡◌, refl, sym, ap, subst, ◌∙◌, Bool, true, false, List, inl, inr}
use Rattle.std.specs.Prelude.{◌≢◌, ⊤, Option, Some, None, IfSome, Result, Ok, Err, IfOk}
use Rattle.std.specs.Cmp.Lexicographic.{bytes_decides}
use Rattle.hr_digest.specs.Digest.{digest_of}
use Rattle.hr_digest.specs.Order.{digest_eq, digests_equal}
use Rattle.hr_digest.specs.declared.digest.Digest.{Digest}
use Rattle.hr_digest.specs.declared.digest.Digest.TheVariants.{Sha256}
use Rattle.hr_name.specs.Tag.{TagName}
use Rattle.hr_event.specs.declared.cause.Cause.{Cause}
use Rattle.hr_event.specs.declared.entry.Entry.{Entry}
use Rattle.hr_event.specs.declared.entry.How.{How}
use Rattle.hr_event.specs.declared.reference.Fetched.{Fetched}
use Rattle.hr_manifest.specs.Manifest.{Parts}
use Rattle.hr_manifest.specs.declared.refusal.Unreadable.{Unreadable}
use Rattle.hr_graph.specs.Walk.{Answers, View}
use Rattle.hr_graph.specs.declared.need.Given.{Given}
use Rattle.hr_graph.specs.declared.need.Given.TheVariants as given
use Rattle.hr_graph.specs.declared.need.Need.{Need}
use Rattle.hr_graph.specs.declared.need.Need.TheVariants as need
use Rattle.hr_graph.specs.declared.need.WalkRefused.{WalkRefused}
use Rattle.hr_graph.proofs.WalkLaws.{begun_sound, begun_undone, done_last, step_falls}
use Rattle.hr_adapter.specs.Reg.{Reg}
use Rattle.hr_adapter.specs.declared.fault.RegFault.{RegFault}
use Rattle.hr_blob.specs.declared.outcome.NotCopied.{NotCopied}
use Rattle.hr_blob.specs.declared.outcome.NotCopied.TheVariants as copy
use Rattle.hr_line.specs.Line.{BlobAsked, ChildCompared, ChildFetched, ChildGoes, ChildStored, CopyEnds, IsBeginning, IsReading, IsTaking, LineEnd, LookEnds, LookFound, RootDecided, RootGoes, RootLooked, RootStored, TagFetched, decide, walked}
use Rattle.hr_line.specs.Step.{Line, StoreLine, WalkLine, WorkLine}
use Rattle.hr_line.specs.declared.held.Admitted.{Admitted}
use Rattle.hr_line.specs.declared.held.Work.{Work}
use Rattle.hr_lane.specs.Line.{IsLive, Tries}

-- where a line ends with work, its walk goes on
abbrev pub EndsLive : LineEnd → Type 0
EndsLive end = IfOk end (λ next. IfSome next IsLive)

by_cause : (end : LineEnd) (why : Cause) → end ≡ Err why → EndsLive end
by_cause end why is = subst EndsLive (sym is) tt

finished : (end : LineEnd) → end ≡ Ok None → EndsLive end
finished end is = subst EndsLive (sym is) tt

-- ---- digests

pub digest_same : (d e : Digest) → digest_eq d e ≡ true → d ≡ e
digest_same (Sha256 a) (Sha256 b) is = ap Sha256 ((bytes_decides a b).0 is)

pub digest_other : (d e : Digest) → digest_eq d e ≡ false → d ≢ e
digest_other d e other same =
    let own = digests_equal.refl e in
    let f : digest_eq e e ≡ false = subst (λ (x : Digest). digest_eq x e ≡ false) same other in cc

-- ---- walks

begins_live : (root : Digest) (parts : Parts) (end : LineEnd) → digest_of parts.bytes ≡ root
    → (walk : Result View WalkRefused) → IsBeginning root parts walk → end ≡ walked false walk → EndsLive end
begins_live root parts end own (Ok walk) begins is =
    let sound = begun_sound root parts walk own begins in
    subst EndsLive (sym is) (record { sound = sound; undone = begun_undone root parts walk begins sound })
begins_live root parts end own (Err why) begins is = subst EndsLive (sym is) tt

goes_live : (w : Work) (answer : Given) (end : LineEnd) → IsLive w → Answers w.walk.need answer
    → w.walk.need ≢ need.PutManifest w.walk.root
    → (walk : Result View WalkRefused) → IsTaking w.walk answer walk → end ≡ walked w.looked walk → EndsLive end
goes_live w answer end live answers child (Ok walk) takes is =
    subst EndsLive (sym is) (record {
      sound = (step_falls w.walk walk answer live.sound answers takes).0;
      undone = λ done. child (done_last w.walk walk answer live.sound answers takes done).0;
    })
goes_live w answer end live answers child (Err why) takes is = subst EndsLive (sym is) tt

-- ---- lines

root_live : (m : Fetched) (end : LineEnd) (reading : Result Parts Unreadable) → IsReading m reading
    → RootGoes (digest_of m.bytes) reading end → EndsLive end
root_live m end (Ok parts) reads goes =
    begins_live (digest_of m.bytes) parts end (ap digest_of reads.1) goes.walk goes.begins goes.is
root_live m end (Err why) reads goes = by_cause end _ goes

tag_live : (a : Admitted) (tag : TagName) (f g : Reg) (log after : List Entry) (end : LineEnd)
    → (fetched : Result (Option Fetched) RegFault) → TagFetched a tag f g log after end fetched → EndsLive end
tag_live a tag f g log after end (Err fault) ends = by_cause end _ ends.1
tag_live a tag f g log after end (Ok None) ends = by_cause end _ ends.1
tag_live a tag f g log after end (Ok (Some m)) came = root_live m end came.reading came.reads came.goes

look_live : (a : Admitted) (tag : TagName) (w : Work) (found : Option Digest) (log after : List Entry) (end : LineEnd)
    → IsLive w → (how : Option How) → LookEnds a tag w found log after end how → EndsLive end
look_live a tag w found log after end live None ends =
    subst EndsLive (sym ends.1) (record { sound = live.sound; undone = live.undone })
look_live a tag w found log after end live (Some how) ends = finished end ends.1

looked_live : (a : Admitted) (tag : TagName) (w : Work) (p q : Reg) (log after : List Entry) (end : LineEnd)
    → IsLive w → (found : Result (Option Digest) RegFault) → LookFound a tag w p q log after end found → EndsLive end
looked_live a tag w p q log after end live (Err fault) ends = by_cause end _ ends.1
looked_live a tag w p q log after end live (Ok found) ends =
    look_live a tag w found log after end live (decide found w.walk.root a.spec.override_it) ends

given_live : (w : Work) (d : Digest) (end : LineEnd) (m : Fetched) → IsLive w → w.walk.need ≡ need.Manifest d
    → digest_of m.bytes ≡ d → (reading : Result Parts Unreadable) → IsReading m reading → ChildGoes w d reading end
    → EndsLive end
given_live w d end m live is own (Ok parts) reads goes =
    goes_live w (given.Manifest parts) end live
    (subst (λ (n : Need). Answers n (given.Manifest parts)) (sym is) (ap digest_of reads.1 ∙ own))
    (λ root. let e : need.Manifest d ≡ need.PutManifest w.walk.root = sym is ∙ root in cc)
    goes.walk goes.takes goes.is
given_live w d end m live is own (Err why) reads goes = by_cause end _ goes

compared_live : (a : Admitted) (w : Work) (d : Digest) (m : Fetched) (log after : List Entry) (end : LineEnd)
    → IsLive w → w.walk.need ≡ need.Manifest d → (b : Bool) → digest_eq (digest_of m.bytes) d ≡ b
    → ChildCompared b a w d m log after end → EndsLive end
compared_live a w d m log after end live is true same came =
    given_live w d end m live is (digest_same (digest_of m.bytes) d same) came.reading came.reads came.goes
compared_live a w d m log after end live is false other ends = by_cause end _ ends.1

child_live : (a : Admitted) (w : Work) (d : Digest) (f g : Reg) (log after : List Entry) (end : LineEnd)
    → IsLive w → w.walk.need ≡ need.Manifest d → (fetched : Result (Option Fetched) RegFault)
    → ChildFetched a w d f g log after end fetched → EndsLive end
child_live a w d f g log after end live is (Err fault) ends = by_cause end _ ends.1
child_live a w d f g log after end live is (Ok None) ends = by_cause end _ ends.1
child_live a w d f g log after end live is (Ok (Some m)) came =
    compared_live a w d m log after end live is (digest_eq (digest_of m.bytes) d) refl came

blob_live : (a : Admitted) (w : Work) (d : Digest) (p q : Reg) (log after : List Entry) (end : LineEnd)
    → IsLive w → w.walk.need ≡ need.HasBlob d → (found : Result (Option _) RegFault)
    → BlobAsked a w d p q log after end found → EndsLive end
blob_live a w d p q log after end live is (Err fault) ends = by_cause end _ ends.1
blob_live a w d p q log after end live is (Ok len) found =
    goes_live w (given.Found len) end live
    (subst (λ (n : Need). Answers n (given.Found len)) (sym is) tt)
    (λ root. let e : need.HasBlob d ≡ need.PutManifest w.walk.root = sym is ∙ root in cc)
    found.goes.walk found.goes.takes found.goes.is

copy_live : (a : Admitted) (w : Work) (d : Digest) (said : _) (log after : List Entry) (end : LineEnd)
    → IsLive w → w.walk.need ≡ need.CopyBlob d → (copied : Result _ NotCopied)
    → CopyEnds a w d said log after end copied → EndsLive end
copy_live a w d said log after end live is (Ok len) ends =
    goes_live w (given.Copied len) end live
    (subst (λ (n : Need). Answers n (given.Copied len)) (sym is) tt)
    (λ root. let e : need.CopyBlob d ≡ need.PutManifest w.walk.root = sym is ∙ root in cc)
    ends.1.walk ends.1.takes ends.1.is
copy_live a w d said log after end live is (Err copy.Gone) ends = by_cause end _ ends.1
copy_live a w d said log after end live is (Err (copy.Unopened f)) ends = by_cause end _ ends.1
copy_live a w d said log after end live is (Err (copy.Unbegun f)) ends = by_cause end _ ends.1
copy_live a w d said log after end live is (Err (copy.Unread f)) ends = by_cause end _ ends.1
copy_live a w d said log after end live is (Err (copy.Unwritten f)) ends = by_cause end _ ends.1
copy_live a w d said log after end live is (Err (copy.TooLong len)) ends = by_cause end _ ends.1
copy_live a w d said log after end live is (Err (copy.Differs got)) ends = by_cause end _ ends.1
copy_live a w d said log after end live is (Err (copy.SizeDiffers got)) ends = by_cause end _ ends.1
copy_live a w d said log after end live is (Err (copy.Unsure len f)) ends = by_cause end _ ends.1

put_live : (a : Admitted) (w : Work) (d : Digest) (p q : Reg) (log after : List Entry) (end : LineEnd)
    → IsLive w → w.walk.need ≡ need.PutManifest d → digest_eq d w.walk.root ≡ false
    → (put : Result ⊤ RegFault) → ChildStored a w d p q log after end put → EndsLive end
put_live a w d p q log after end live is other (Err fault) ends = by_cause end _ ends.1
put_live a w d p q log after end live is other (Ok done) ends =
    goes_live w given.Put end live
    (subst (λ (n : Need). Answers n given.Put) (sym is) tt)
    (λ root. let e : need.PutManifest d ≡ need.PutManifest w.walk.root = sym is ∙ root in
    let same : d ≡ w.walk.root = cc in digest_other d w.walk.root other same)
    ends.1.walk ends.1.takes ends.1.is

stored_live : (a : Admitted) (tag : TagName) (root : Digest) (found : Option Digest) (mid q : Reg) (log after : List Entry)
    (end : LineEnd) → (put : Result ⊤ RegFault) → RootStored a tag root found mid q log after end put → EndsLive end
stored_live a tag root found mid q log after end (Ok done) ends = finished end ends.1
stored_live a tag root found mid q log after end (Err fault) ends = by_cause end _ ends.1

decided_live : (a : Admitted) (tag : TagName) (w : Work) (found : Option Digest) (mid q : Reg) (log after : List Entry)
    (end : LineEnd) → (how : Option How) → RootDecided a tag w found mid q log after end how → EndsLive end
decided_live a tag w found mid q log after end None puts =
    stored_live a tag w.walk.root found mid q log after end puts.put puts.stores
decided_live a tag w found mid q log after end (Some how) ends = finished end ends.2

shown_live : (a : Admitted) (tag : TagName) (w : Work) (p mid q : Reg) (log after : List Entry) (end : LineEnd)
    → (found : Result (Option Digest) RegFault) → RootLooked a tag w p mid q log after end found → EndsLive end
shown_live a tag w p mid q log after end (Err fault) ends = by_cause end _ ends.1.1
shown_live a tag w p mid q log after end (Ok found) ends =
    decided_live a tag w found mid q log after end (decide found w.walk.root a.spec.override_it) ends

store_live : (a : Admitted) (tag : TagName) (w : Work) (d : Digest) (p q : Reg) (log after : List Entry) (end : LineEnd)
    → IsLive w → w.walk.need ≡ need.PutManifest d → (b : Bool) → digest_eq d w.walk.root ≡ b
    → StoreLine b a tag w d p q log after end → EndsLive end
store_live a tag w d p q log after end live is true same line =
    shown_live a tag w p line.mid q log after end line.found line.finds
store_live a tag w d p q log after end live is false other line =
    put_live a w d p q log after end live is other line.put line.stores

walk_live : (a : Admitted) (tag : TagName) (w : Work) (f g p q : Reg) (log after : List Entry) (end : LineEnd)
    → IsLive w → (n : Need) → w.walk.need ≡ n → WalkLine n a tag w f g p q log after end → EndsLive end
walk_live a tag w f g p q log after end live (need.Manifest d) is line =
    child_live a w d f g log after end live is line.1.fetched line.1.comes
walk_live a tag w f g p q log after end live (need.HasBlob d) is line =
    blob_live a w d p q log after end live is line.1.found line.1.finds
walk_live a tag w f g p q log after end live (need.CopyBlob d) is line =
    copy_live a w d line.said log after end live is line.copied line.ends
walk_live a tag w f g p q log after end live (need.PutManifest d) is line =
    store_live a tag w d p q log after end live is (digest_eq d w.walk.root) refl line.1
walk_live a tag w f g p q log after end live need.Done is line = absurd line

work_live : (a : Admitted) (tag : TagName) (w : Work) (f g p q : Reg) (log after : List Entry) (end : LineEnd)
    → IsLive w → (looked : Bool) → WorkLine looked a tag w f g p q log after end → EndsLive end
work_live a tag w f g p q log after end live true line =
    walk_live a tag w f g p q log after end live w.walk.need refl line
work_live a tag w f g p q log after end live false line =
    looked_live a tag w p q log after end live line.1.found line.1.finds

-- where the walk goes on before a line, it goes on after it
pub line_live : (a : Admitted) (tag : TagName) (work : Option Work) (f g p q : Reg) (log after : List Entry)
    (end : LineEnd) → IfSome work IsLive → Line a tag work f g p q log after end → EndsLive end
line_live a tag None f g p q log after end live line =
    tag_live a tag f g log after end line.1.fetched line.1.comes
line_live a tag (Some w) f g p q log after end live line =
    work_live a tag w f g p q log after end live w.looked line

-- so it does where there was no room for the line
pub tried_live : (a : Admitted) (tag : TagName) (work : Option Work) (f g p q : Reg) (log after : List Entry)
    (end : LineEnd) → IfSome work IsLive → Tries a tag work f g p q log after end → EndsLive end
tried_live a tag work f g p q log after end live tries = elim tries [
  | inl line ↦ line_live a tag work f g p q log after end live line
  | inr none ↦ by_cause end _ none.is
]
