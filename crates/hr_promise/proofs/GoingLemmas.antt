-- Each line of a revision that goes on leaves fewer steps, and writes an entry that tells it.
use Rattle.std.proofs.Common.{◌≡◌, refl, sym, ap, subst, ◌∙◌, ℕ, ◌+◌, ◌<◌, Bool, true, false, List, ◌∷◌, arith}
use Rattle.std.specs.Prelude.{◌≢◌, Option, Some, None, IfSome, Result, Ok, Err, ⊤}
use Rattle.std.specs.Cmp.Lexicographic.{bytes_decides}
use Rattle.hr_digest.specs.Digest.{digest_of}
use Rattle.hr_digest.specs.Order.{digest_eq}
use Rattle.hr_digest.specs.declared.digest.Digest.{Digest}
use Rattle.hr_digest.specs.declared.digest.Digest.TheVariants.{Sha256}
use Rattle.hr_name.specs.Tag.{TagName}
use Rattle.hr_event.specs.declared.cause.Cause.{Cause}
use Rattle.hr_event.specs.declared.entry.Entry.{Entry}
use Rattle.hr_event.specs.declared.entry.How.{How}
use Rattle.hr_event.specs.declared.entry.How.TheVariants.{Put, Unsure, Same, Kept}
use Rattle.hr_event.specs.declared.entry.What.{What}
use Rattle.hr_event.specs.declared.entry.What.TheVariants as what
use Rattle.hr_event.specs.declared.reference.Fetched.{Fetched}
use Rattle.hr_manifest.specs.Manifest.{Parts}
use Rattle.hr_manifest.specs.declared.refusal.Unreadable.{Unreadable}
use Rattle.hr_graph.specs.Sound.{IsSound}
use Rattle.hr_graph.specs.Walk.{Answers, View, left_of}
use Rattle.hr_graph.specs.declared.need.Given.{Given}
use Rattle.hr_graph.specs.declared.need.Given.TheVariants as given
use Rattle.hr_graph.specs.declared.need.Need.{Need}
use Rattle.hr_graph.specs.declared.need.Need.TheVariants as need
use Rattle.hr_graph.specs.declared.need.WalkRefused.{WalkRefused}
use Rattle.hr_graph.proofs.WalkLaws.{step_falls}
use Rattle.hr_adapter.specs.Reg.{Reg}
use Rattle.hr_adapter.specs.declared.fault.RegFault.{RegFault}
use Rattle.hr_blob.specs.declared.outcome.NotCopied.{NotCopied}
use Rattle.hr_blob.specs.declared.outcome.NotCopied.TheVariants as copy
use Rattle.hr_line.specs.Line.{BlobAsked, ChildCompared, ChildFetched, ChildGoes, ChildStored, CopyEnds, IsReading, IsTaking, LineEnd, LookEnds, LookFound, RootDecided, RootGoes, RootLooked, RootStored, TagFetched, WorkGoes, decide, decided_by, entry_of, walked}
use Rattle.hr_line.specs.Step.{Line, StoreLine, WalkLine, WorkLine}
use Rattle.hr_line.specs.declared.held.Admitted.{Admitted}
use Rattle.hr_line.specs.declared.held.Work.{Work}
use Rattle.hr_promise.specs.Answer.{IsTold, IsToldStep, last_done, told_by}
use Rattle.hr_promise.specs.Measure.{look_left, work_left}

-- ---- what tells a step

-- an entry that tells the step before which it is the newest
told_one : (a : Admitted) (said : What) (log after : List Entry) → IsToldStep said → told_by said log ≡ Some said
    → after ≡ entry_of a said ∷ log → IsTold after
told_one a said log after tells is writes = record {
  what = said;
  last = ap last_done writes ∙ is;
  tells = tells;
}

-- a look decides a tag as the same, or as another one that is kept
decided_sure : (same replaces : Bool) (how : How) → decided_by same replaces ≡ Some how → how ≢ Unsure
decided_sure true replaces how is = λ e. let both : Some Same ≡ Some Unsure = is ∙ ap Some e in cc
decided_sure false true how is = λ e. let both : None ≡ Some how = is in cc
decided_sure false false how is = λ e. let both : Some Kept ≡ Some Unsure = is ∙ ap Some e in cc

look_sure : (found : Option Digest) (root : Digest) (replaces : Bool) (how : How) → decide found root replaces ≡ Some how
    → how ≢ Unsure
look_sure None root replaces how is = λ e. let both : None ≡ Some how = is in cc
look_sure (Some d) root replaces how is = decided_sure (digest_eq d root) replaces how is

digest_same : (d e : Digest) → digest_eq d e ≡ true → d ≡ e
digest_same (Sha256 x) (Sha256 y) is = ap Sha256 ((bytes_decides x y).0 is)

fewer_by : (m n k : ℕ) → m < n → m + k < n + k
fewer_by m n k less = omega (arith, less)

-- ---- what is left

-- work that goes on has fewer steps left
abbrev pub LeavesFewer : Option Work → Option Work → Type 0
LeavesFewer work None = ⊤
LeavesFewer work (Some w) = work_left (Some w) < work_left work

-- the walk of work, where there is some, is sound
abbrev pub IsSoundWork : Option Work → Type 0
IsSoundWork work = IfSome work (λ w. IsSound w.walk)

-- where the revision goes on, fewer steps are left, and the journal tells the step
abbrev pub EndGoes : Option Work → List Entry → LineEnd → Type 0
EndGoes work after (Ok now) = (IsSoundWork work → LeavesFewer work now) × IsTold after
EndGoes work after (Err why) = ⊤

module _ (work : Option Work) (a : Admitted) (log after : List Entry) (end : LineEnd) where
  is_so : (now : LineEnd) → end ≡ now → EndGoes work after now → EndGoes work after end
  is_so now is goes = subst (λ (e : LineEnd). EndGoes work after e) (sym is) goes

  by_cause : (why : Cause) → end ≡ Err why → EndGoes work after end
  by_cause why is = is_so (Err why) is tt

  -- ---- a tag is read

  begun : (m : Fetched) (tag : TagName) → work ≡ None → after ≡ entry_of a (what.ReadTag tag m.media m.bytes) ∷ log
      → (walk : Result View WalkRefused) → end ≡ walked false walk → EndGoes work after end
  begun m tag none writes (Err why) is = by_cause _ is
  begun m tag none writes (Ok new) is =
      is_so (Ok (Some (record { looked = false; walk = new }))) is (
        (λ sound. subst (λ (x : Option Work). left_of new + 1 < work_left x) (sym none) (omega arith)),
        told_one a (what.ReadTag tag m.media m.bytes) log after tt refl writes,
      )

  root_goes : (m : Fetched) (tag : TagName) (root : Digest) → work ≡ None → after ≡ entry_of a (what.ReadTag tag m.media m.bytes) ∷ log
      → (reading : Result Parts Unreadable) → RootGoes root reading end → EndGoes work after end
  root_goes m tag root none writes (Ok parts) begins = begun m tag none writes begins.walk begins.is
  root_goes m tag root none writes (Err why) is = by_cause _ is

  tag_goes : (tag : TagName) (f g : Reg) → work ≡ None → (fetched : Result (Option Fetched) RegFault)
      → TagFetched a tag f g log after end fetched → EndGoes work after end
  tag_goes tag f g none (Ok (Some m)) came = root_goes m tag (digest_of m.bytes) none came.writes came.reading came.goes
  tag_goes tag f g none (Ok None) ends = by_cause _ ends.1
  tag_goes tag f g none (Err fault) ends = by_cause _ ends.1

  -- ---- with work

  module _ (w : Work) (works : work ≡ Some w) where
    -- a tag was finished
    finishes : (tag : TagName) (old : Option Digest) (how : How) (older : List Entry) → how ≢ Unsure
        → after ≡ entry_of a (what.Show tag w.walk.root old how) ∷ older → end ≡ Ok None → EndGoes work after end
    finishes tag old how older sure writes is =
        is_so (Ok None) is ((λ sound. tt), told_one a (what.Show tag w.walk.root old how) older after sure refl writes)

    look_goes : (tag : TagName) (found : Option Digest) → w.looked ≡ false → (how : Option How)
        → decide found w.walk.root a.spec.override_it ≡ how → LookEnds a tag w found log after end how → EndGoes work after end
    look_goes tag found unlooked None is ends =
        is_so (Ok (Some (record w { looked = true }))) ends.1 (
          (λ sound.
              subst (λ (x : Option Work). left_of w.walk + 0 < work_left x) (sym works)
              (subst (λ (b : Bool). left_of w.walk + 0 < left_of w.walk + look_left b) (sym unlooked) (omega arith))),
          told_one a (what.Looked tag found) log after tt refl ends.0,
        )
    look_goes tag found unlooked (Some how) is ends =
        finishes tag found how (entry_of a (what.Looked tag found) ∷ log) (look_sure found w.walk.root a.spec.override_it how is)
        ends.0 ends.1

    looked_goes : (tag : TagName) (p q : Reg) → w.looked ≡ false → (found : Result (Option Digest) RegFault)
        → LookFound a tag w p q log after end found → EndGoes work after end
    looked_goes tag p q unlooked (Ok found) finds =
        look_goes tag found unlooked (decide found w.walk.root a.spec.override_it) refl finds
    looked_goes tag p q unlooked (Err fault) ends = by_cause _ ends.1

    stored_goes : (tag : TagName) (found : Option Digest) (mid q : Reg) (put : Result ⊤ RegFault)
        → RootStored a tag w.walk.root found mid q log after end put → EndGoes work after end
    stored_goes tag found mid q (Ok done) stores =
        finishes tag found Put log (λ e. let both : Put ≡ Unsure = e in cc) stores.0 stores.1
    stored_goes tag found mid q (Err fault) stores = by_cause _ stores.1

    decided_goes : (tag : TagName) (found : Option Digest) (mid q : Reg) (how : Option How)
        → decide found w.walk.root a.spec.override_it ≡ how → RootDecided a tag w found mid q log after end how
        → EndGoes work after end
    decided_goes tag found mid q None is puts = stored_goes tag found mid q puts.put puts.stores
    decided_goes tag found mid q (Some how) is ends =
        finishes tag found how log (look_sure found w.walk.root a.spec.override_it how is) ends.1 ends.2

    root_line_goes : (tag : TagName) (p mid q : Reg) (found : Result (Option Digest) RegFault)
        → RootLooked a tag w p mid q log after end found → EndGoes work after end
    root_line_goes tag p mid q (Ok found) finds =
        decided_goes tag found mid q (decide found w.walk.root a.spec.override_it) refl finds
    root_line_goes tag p mid q (Err fault) ends = by_cause _ ends.1.1

    goes : (g : Given) → Answers w.walk.need g → IsTold after → WorkGoes w g end → EndGoes work after end
    goes g answers told makes = by makes.walk makes.takes makes.is
      where
        by : (walk : Result View WalkRefused) → IsTaking w.walk g walk → end ≡ walked w.looked walk → EndGoes work after end
        by (Err why) takes is = by_cause _ is
        by (Ok new) takes is =
            is_so (Ok (Some (record { looked = w.looked; walk = new }))) is (
              (λ sound.
                  subst (λ (x : Option Work). left_of new + look_left w.looked < work_left x) (sym works)
                  (fewer_by (left_of new) (left_of w.walk) (look_left w.looked)
                  (step_falls w.walk new g (subst IsSoundWork works sound) answers takes).1)),
              told,
            )

    child_goes : (d : Digest) (m : Fetched) → w.walk.need ≡ need.Manifest d → digest_of m.bytes ≡ d
        → (reading : Result Parts Unreadable) → IsReading m reading
        → after ≡ entry_of a (what.ReadChild d m.media m.bytes) ∷ log → ChildGoes w d reading end → EndGoes work after end
    child_goes d m is own (Ok parts) reads writes makes =
        goes (given.Manifest parts)
        (subst (λ (n : Need). Answers n (given.Manifest parts)) (sym is) (ap digest_of reads.1 ∙ own))
        (told_one a (what.ReadChild d m.media m.bytes) log after tt refl writes) makes
    child_goes d m is own (Err refused) reads writes ends = by_cause _ ends

    compared_goes : (d : Digest) (m : Fetched) → w.walk.need ≡ need.Manifest d → (same : Bool) → digest_eq (digest_of m.bytes) d ≡ same
        → ChildCompared same a w d m log after end → EndGoes work after end
    compared_goes d m is true own came =
        child_goes d m is (digest_same (digest_of m.bytes) d own) came.reading came.reads came.writes came.goes
    compared_goes d m is false other ends = by_cause _ ends.1

    child_line_goes : (d : Digest) (f g : Reg) → w.walk.need ≡ need.Manifest d → (fetched : Result (Option Fetched) RegFault)
        → ChildFetched a w d f g log after end fetched → EndGoes work after end
    child_line_goes d f g is (Ok (Some m)) came = compared_goes d m is (digest_eq (digest_of m.bytes) d) refl came
    child_line_goes d f g is (Ok None) ends = by_cause _ ends.1
    child_line_goes d f g is (Err fault) ends = by_cause _ ends.1

    blob_goes : (d : Digest) (p q : Reg) → w.walk.need ≡ need.HasBlob d → (found : Result (Option ℕ) RegFault)
        → BlobAsked a w d p q log after end found → EndGoes work after end
    blob_goes d p q is (Ok len) found =
        goes (given.Found len) (subst (λ (n : Need). Answers n (given.Found len)) (sym is) tt)
        (told_one a (what.HasBlob d len) log after tt refl found.writes) found.goes
    blob_goes d p q is (Err fault) ends = by_cause _ ends.1

    put_goes : (d : Digest) (p q : Reg) → w.walk.need ≡ need.PutManifest d → (put : Result ⊤ RegFault)
        → ChildStored a w d p q log after end put → EndGoes work after end
    put_goes d p q is (Ok done) stores =
        goes given.Put (subst (λ (n : Need). Answers n given.Put) (sym is) tt)
        (told_one a (what.PutChild d true) log after tt refl stores.0) stores.1
    put_goes d p q is (Err fault) stores = by_cause _ stores.1

    -- a blob that came and was put is told by its read
    copied_goes : (d : Digest) (len : ℕ) → w.walk.need ≡ need.CopyBlob d
        → after ≡ entry_of a (what.PutBlob d true) ∷ entry_of a (what.GotBlob d len) ∷ log → WorkGoes w (given.Copied len) end
        → EndGoes work after end
    copied_goes d len is writes makes =
        goes (given.Copied len) (subst (λ (n : Need). Answers n (given.Copied len)) (sym is) tt)
        (record { what = what.GotBlob d len; last = ap last_done writes; tells = tt }) makes

    copy_goes : (d : Digest) (said : ℕ) → w.walk.need ≡ need.CopyBlob d → (copied : Result ℕ NotCopied)
        → CopyEnds a w d said log after end copied → EndGoes work after end
    copy_goes d said is (Ok len) ends = copied_goes d len is ends.0 ends.1
    copy_goes d said is (Err copy.Gone) ends = by_cause _ ends.1
    copy_goes d said is (Err (copy.Unopened f)) ends = by_cause _ ends.1
    copy_goes d said is (Err (copy.Unbegun f)) ends = by_cause _ ends.1
    copy_goes d said is (Err (copy.Unread f)) ends = by_cause _ ends.1
    copy_goes d said is (Err (copy.Unwritten f)) ends = by_cause _ ends.1
    copy_goes d said is (Err (copy.TooLong len)) ends = by_cause _ ends.1
    copy_goes d said is (Err (copy.Differs got)) ends = by_cause _ ends.1
    copy_goes d said is (Err (copy.SizeDiffers got)) ends = by_cause _ ends.1
    copy_goes d said is (Err (copy.Unsure len f)) ends = by_cause _ ends.1

    store_goes : (tag : TagName) (d : Digest) (p q : Reg) → w.walk.need ≡ need.PutManifest d → (root : Bool)
        → StoreLine root a tag w d p q log after end → EndGoes work after end
    store_goes tag d p q is true line = root_line_goes tag p line.mid q line.found line.finds
    store_goes tag d p q is false line = put_goes d p q is line.put line.stores

    walk_goes : (tag : TagName) (f g p q : Reg) (x : Need) → w.walk.need ≡ x → WalkLine x a tag w f g p q log after end
        → EndGoes work after end
    walk_goes tag f g p q (need.Manifest d) is line = child_line_goes d f g is line.1.fetched line.1.comes
    walk_goes tag f g p q (need.HasBlob d) is line = blob_goes d p q is line.1.found line.1.finds
    walk_goes tag f g p q (need.CopyBlob d) is line = copy_goes d line.said is line.copied line.ends
    walk_goes tag f g p q (need.PutManifest d) is line = store_goes tag d p q is (digest_eq d w.walk.root) line.1
    walk_goes tag f g p q need.Done is line = absurd line

    work_goes : (tag : TagName) (f g p q : Reg) (looked : Bool) → w.looked ≡ looked
        → WorkLine looked a tag w f g p q log after end → EndGoes work after end
    work_goes tag f g p q true is line = walk_goes tag f g p q w.walk.need refl line
    work_goes tag f g p q false is line = looked_goes tag p q is line.1.found line.1.finds

-- each line of a revision that goes on leaves fewer steps, and is told
pub line_goes : (a : Admitted) (tag : TagName) (work : Option Work) (f g p q : Reg) (log after : List Entry) (end : LineEnd)
    → Line a tag work f g p q log after end → EndGoes work after end
line_goes a tag None f g p q log after end line = tag_goes None a log after end tag f g refl line.1.fetched line.1.comes
line_goes a tag (Some w) f g p q log after end line =
    work_goes (Some w) a log after end w refl tag f g p q w.looked refl line
