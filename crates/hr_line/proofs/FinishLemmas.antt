-- A tag that a line finishes has its entry: it was put, or was left as a look decided.
use Rattle.std.proofs.Common.{◌≡◌, refl, sym, subst, ◌∙◌, ℕ, Bool, true, false, List, ◌∷◌}
use Rattle.std.specs.Prelude.{◌≢◌, Option, Some, None, Result, Ok, Err, ⊤}
use Rattle.hr_digest.specs.Digest.{digest_of}
use Rattle.hr_digest.specs.Order.{digest_eq}
use Rattle.hr_digest.specs.declared.digest.Digest.{Digest}
use Rattle.hr_name.specs.Tag.{TagName}
use Rattle.hr_event.specs.declared.cause.Cause.{Cause}
use Rattle.hr_event.specs.declared.entry.Entry.{Entry}
use Rattle.hr_event.specs.declared.entry.How.{How}
use Rattle.hr_event.specs.declared.entry.How.TheVariants.{Put, Unsure, Same, Kept}
use Rattle.hr_event.specs.declared.entry.What.TheVariants as what
use Rattle.hr_event.specs.declared.reference.Fetched.{Fetched}
use Rattle.hr_manifest.specs.Manifest.{Parts}
use Rattle.hr_manifest.specs.declared.refusal.Unreadable.{Unreadable}
use Rattle.hr_graph.specs.Walk.{View}
use Rattle.hr_graph.specs.declared.need.Given.{Given}
use Rattle.hr_graph.specs.declared.need.Need.{Need}
use Rattle.hr_graph.specs.declared.need.Need.TheVariants as need
use Rattle.hr_graph.specs.declared.need.WalkRefused.{WalkRefused}
use Rattle.hr_adapter.specs.Reg.{Reg}
use Rattle.hr_adapter.specs.declared.fault.RegFault.{RegFault}
use Rattle.hr_blob.specs.declared.outcome.NotCopied.{NotCopied}
use Rattle.hr_blob.specs.declared.outcome.NotCopied.TheVariants as copy
use Rattle.hr_line.specs.Finals.{IsFinished}
use Rattle.hr_line.specs.Line.{BlobAsked, ChildCompared, ChildFetched, ChildGoes, ChildStored, CopyEnds, LineEnd, LookEnds, LookFound, RootDecided, RootGoes, RootLooked, RootStored, TagFetched, WorkGoes, decide, entry_of, walked}
use Rattle.hr_line.specs.Step.{Line, StoreLine, WalkLine, WorkLine}
use Rattle.hr_line.specs.declared.held.Admitted.{Admitted}
use Rattle.hr_line.specs.declared.held.Work.{Work}
use Rattle.hr_line.proofs.CalmLemmas.{look_leaves}
use Rattle.hr_line.proofs.EvidenceLemmas.{says_now}
use Rattle.hr_journal.specs.Puts.{IsLeft}

left_sure : (how : How) (d : Digest) (old : Option Digest) → IsLeft how d old → how ≢ Unsure
left_sure Put d old left = absurd left
left_sure Unsure d old left = absurd left
left_sure Same d old left = λ e. cc
left_sure Kept d old left = λ e. cc

walked_on : (looked : Bool) (walk : Result View WalkRefused) → walked looked walk ≢ Ok None
walked_on looked (Ok view) e = cc
walked_on looked (Err why) e = cc

module _ (a : Admitted) (tag : TagName) (log after : List Entry) (end : LineEnd) (ends_so : end ≡ Ok None) where
  finished_now : (d : Digest) (old : Option Digest) (how : How) (older : List Entry) → how ≢ Unsure
      → after ≡ entry_of a (what.Show tag d old how) ∷ older → IsFinished a after tag
  finished_now d old how older sure writes =
      subst (λ (es : List Entry). IsFinished a es tag) (sym writes) (record {
        digest = d;
        old = old;
        how = how;
        says = says_now a older (what.Show tag d old how);
        sure = sure;
      })

  no_end : (cause : Cause) → end ≡ Err cause → IsFinished a after tag
  no_end cause is = let bad : Err cause ≡ Ok None = sym is ∙ ends_so in cc

  no_walk : (looked : Bool) (walk : Result View WalkRefused) → end ≡ walked looked walk → IsFinished a after tag
  no_walk looked walk is = absurd (walked_on looked walk (sym is ∙ ends_so))

  root_none : (root : Digest) (reading : Result Parts Unreadable) → RootGoes root reading end → IsFinished a after tag
  root_none root (Ok parts) begins = no_walk false begins.walk begins.is
  root_none root (Err why) is = no_end _ is

  tag_none : (f g : Reg) (fetched : Result (Option Fetched) RegFault) → TagFetched a tag f g log after end fetched → IsFinished a after tag
  tag_none f g (Ok (Some m)) came = root_none (digest_of m.bytes) came.reading came.goes
  tag_none f g (Ok None) ends = no_end _ ends.1
  tag_none f g (Err fault) ends = no_end _ ends.1

  look_done : (w : Work) (found : Option Digest) (how : Option How) → decide found w.walk.root a.spec.override_it ≡ how
      → LookEnds a tag w found log after end how → IsFinished a after tag
  look_done w found None is ends =
      let on : LineEnd = Ok (Some (record w { looked = true })) in
      let bad : on ≡ Ok None = sym ends.1 ∙ ends_so in cc
  look_done w found (Some how) is ends =
      finished_now w.walk.root found how (entry_of a (what.Looked tag found) ∷ log)
      (left_sure how w.walk.root found (look_leaves found w.walk.root a.spec.override_it how is)) ends.0

  looked_done : (w : Work) (p q : Reg) (found : Result (Option Digest) RegFault) → LookFound a tag w p q log after end found
      → IsFinished a after tag
  looked_done w p q (Ok found) finds = look_done w found (decide found w.walk.root a.spec.override_it) refl finds
  looked_done w p q (Err fault) ends = no_end _ ends.1

  goes_none : (w : Work) (g : Given) → WorkGoes w g end → IsFinished a after tag
  goes_none w g goes = no_walk w.looked goes.walk goes.is

  child_none : (w : Work) (d : Digest) (reading : Result Parts Unreadable) → ChildGoes w d reading end → IsFinished a after tag
  child_none w d (Ok parts) goes = goes_none w _ goes
  child_none w d (Err why) is = no_end _ is

  compared_none : (w : Work) (d : Digest) (m : Fetched) (same : Bool) → ChildCompared same a w d m log after end → IsFinished a after tag
  compared_none w d m true came = child_none w d came.reading came.goes
  compared_none w d m false ends = no_end _ ends.1

  fetched_none : (w : Work) (d : Digest) (f g : Reg) (fetched : Result (Option Fetched) RegFault)
      → ChildFetched a w d f g log after end fetched → IsFinished a after tag
  fetched_none w d f g (Ok (Some m)) came = compared_none w d m (digest_eq (digest_of m.bytes) d) came
  fetched_none w d f g (Ok None) ends = no_end _ ends.1
  fetched_none w d f g (Err fault) ends = no_end _ ends.1

  blob_none : (w : Work) (d : Digest) (p q : Reg) (found : Result (Option ℕ) RegFault) → BlobAsked a w d p q log after end found
      → IsFinished a after tag
  blob_none w d p q (Ok len) found = goes_none w _ found.goes
  blob_none w d p q (Err fault) ends = no_end _ ends.1

  copy_none : (w : Work) (d : Digest) (said : ℕ) (copied : Result ℕ NotCopied) → CopyEnds a w d said log after end copied
      → IsFinished a after tag
  copy_none w d said (Ok len) ends = goes_none w _ ends.1
  copy_none w d said (Err copy.Gone) ends = no_end _ ends.1
  copy_none w d said (Err (copy.Unopened f)) ends = no_end _ ends.1
  copy_none w d said (Err (copy.Unbegun f)) ends = no_end _ ends.1
  copy_none w d said (Err (copy.Unread f)) ends = no_end _ ends.1
  copy_none w d said (Err (copy.Unwritten f)) ends = no_end _ ends.1
  copy_none w d said (Err (copy.TooLong len)) ends = no_end _ ends.1
  copy_none w d said (Err (copy.Differs got)) ends = no_end _ ends.1
  copy_none w d said (Err (copy.SizeDiffers got)) ends = no_end _ ends.1
  copy_none w d said (Err (copy.Unsure len f)) ends = no_end _ ends.1

  put_none : (w : Work) (d : Digest) (p q : Reg) (put : Result ⊤ RegFault) → ChildStored a w d p q log after end put
      → IsFinished a after tag
  put_none w d p q (Ok done) stores = goes_none w _ stores.1
  put_none w d p q (Err fault) stores = no_end _ stores.1

  stored_done : (root : Digest) (found : Option Digest) (mid q : Reg) (put : Result ⊤ RegFault)
      → RootStored a tag root found mid q log after end put → IsFinished a after tag
  stored_done root found mid q (Ok done) stores = finished_now root found Put log (λ e. cc) stores.0
  stored_done root found mid q (Err fault) stores = no_end _ stores.1

  decided_done : (w : Work) (found : Option Digest) (mid q : Reg) (how : Option How)
      → decide found w.walk.root a.spec.override_it ≡ how → RootDecided a tag w found mid q log after end how → IsFinished a after tag
  decided_done w found mid q None is puts = stored_done w.walk.root found mid q puts.put puts.stores
  decided_done w found mid q (Some how) is ends =
      finished_now w.walk.root found how log
      (left_sure how w.walk.root found (look_leaves found w.walk.root a.spec.override_it how is)) ends.1

  root_done : (w : Work) (p mid q : Reg) (found : Result (Option Digest) RegFault) → RootLooked a tag w p mid q log after end found
      → IsFinished a after tag
  root_done w p mid q (Ok found) finds = decided_done w found mid q (decide found w.walk.root a.spec.override_it) refl finds
  root_done w p mid q (Err fault) ends = no_end _ ends.1.1

  store_done : (w : Work) (d : Digest) (p q : Reg) (root : Bool) → StoreLine root a tag w d p q log after end → IsFinished a after tag
  store_done w d p q true line = root_done w p line.mid q line.found line.finds
  store_done w d p q false line = put_none w d p q line.put line.stores

  walk_done : (w : Work) (f g p q : Reg) (x : Need) → WalkLine x a tag w f g p q log after end → IsFinished a after tag
  walk_done w f g p q (need.Manifest d) line = fetched_none w d f g line.1.fetched line.1.comes
  walk_done w f g p q (need.HasBlob d) line = blob_none w d p q line.1.found line.1.finds
  walk_done w f g p q (need.CopyBlob d) line = copy_none w d line.said line.copied line.ends
  walk_done w f g p q (need.PutManifest d) line = store_done w d p q (digest_eq d w.walk.root) line.1
  walk_done w f g p q need.Done line = absurd line

  work_done : (w : Work) (f g p q : Reg) (looked : Bool) → WorkLine looked a tag w f g p q log after end → IsFinished a after tag
  work_done w f g p q true line = walk_done w f g p q w.walk.need line
  work_done w f g p q false line = looked_done w p q line.1.found line.1.finds

  -- a line after which a tag is finished has its entry
  pub line_finishes : (work : Option Work) (f g p q : Reg) → Line a tag work f g p q log after end → IsFinished a after tag
  line_finishes None f g p q line = tag_none f g line.1.fetched line.1.comes
  line_finishes (Some w) f g p q line = work_done w f g p q w.looked line
