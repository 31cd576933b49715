-- What each line writes is entries of its revision, none of which says that it ended.
use Rattle.std.proofs.Common.{◌≡◌, ap, ◌∙◌, ℕ, Bool, true, false, List, [], ◌∷◌, ◌++◌}
use Rattle.std.specs.Prelude.{Option, Some, None, Result, Ok, Err, map, ⊤}
use Rattle.std.specs.List.{AllByRecursion}
use Rattle.hr_digest.specs.Digest.{digest_of}
use Rattle.hr_digest.specs.Order.{digest_eq}
use Rattle.hr_digest.specs.declared.digest.Digest.{Digest}
use Rattle.hr_name.specs.Tag.{TagName}
use Rattle.hr_event.specs.declared.cause.Cause.{Cause}
use Rattle.hr_event.specs.declared.entry.Entry.{Entry}
use Rattle.hr_event.specs.declared.entry.How.{How}
use Rattle.hr_event.specs.declared.entry.How.TheVariants.{Put, Unsure}
use Rattle.hr_event.specs.declared.entry.What.{What}
use Rattle.hr_event.specs.declared.entry.What.TheVariants.{Began, Ended, ReadTag, Looked, ReadChild, HasBlob, GotBlob, PutBlob, PutChild, Show}
use Rattle.hr_event.specs.declared.reference.Fetched.{Fetched}
use Rattle.hr_graph.specs.declared.need.Need.{Need}
use Rattle.hr_graph.specs.declared.need.Need.TheVariants as need
use Rattle.hr_journal.proofs.ListLaws.{each_then}
use Rattle.hr_adapter.specs.Reg.{Reg}
use Rattle.hr_adapter.specs.declared.fault.RegFault.{RegFault}
use Rattle.hr_blob.specs.declared.outcome.NotCopied.{NotCopied}
use Rattle.hr_blob.specs.declared.outcome.NotCopied.TheVariants as copy
use Rattle.hr_line.specs.Line.{BlobAsked, ChildCompared, ChildFetched, ChildStored, CopyEnds, EndsBy, LineEnd, LookEnds, LookFound, RootDecided, RootLooked, RootStored, TagFetched, decide, entry_of}
use Rattle.hr_line.specs.Step.{Line, StoreLine, WalkLine, WorkLine}
use Rattle.hr_line.specs.declared.held.Admitted.{Admitted}
use Rattle.hr_line.specs.declared.held.Work.{Work}
use Rattle.hr_line.proofs.LastLemmas.{Wrote}

-- an entry that doesn't say that its revision ended
abbrev pub EndsNone : What → Type 0
EndsNone (Ended status cause) = ⊥
EndsNone _ = ⊤

-- entries of a revision were added, and none says that it ended
pub record Unended (a : Admitted) (older newer : List Entry) : Type 0 where
  pub more : List What
  pub joined : newer ≡ map (entry_of a) more ++ older
  pub each : AllByRecursion EndsNone more

pub unended_none : (a : Admitted) (older newer : List Entry) → newer ≡ older → Unended a older newer
unended_none a older newer is = record { more = []; joined = is; each = tt }

pub unended_one : (a : Admitted) (said : What) (older newer : List Entry) → EndsNone said → newer ≡ entry_of a said ∷ older
    → Unended a older newer
unended_one a said older newer none is = record { more = said ∷ []; joined = is; each = (none, tt) }

pub unended_then : (a : Admitted) (said : What) (older middle newer : List Entry) → EndsNone said → Unended a older middle
    → newer ≡ entry_of a said ∷ middle → Unended a older newer
unended_then a said older middle newer none wrote is = record {
  more = said ∷ wrote.more;
  joined = is ∙ ap (λ (es : List Entry). entry_of a said ∷ es) wrote.joined;
  each = (none, wrote.each);
}

-- an entry that neither says that its revision began nor that it ended
abbrev pub IsPlain : What → Type 0
IsPlain Began = ⊥
IsPlain (Ended status cause) = ⊥
IsPlain _ = ⊤

plain_ends_none : (said : What) → IsPlain said → EndsNone said
plain_ends_none (Ended status cause) plain = absurd plain
plain_ends_none said plain = tt

-- entries of a revision were added, each of them plain
pub record Plain (a : Admitted) (older newer : List Entry) : Type 0 where
  pub more : List What
  pub joined : newer ≡ map (entry_of a) more ++ older
  pub each : AllByRecursion IsPlain more

plain_none : (a : Admitted) (older newer : List Entry) → newer ≡ older → Plain a older newer
plain_none a older newer is = record { more = []; joined = is; each = tt }

plain_one : (a : Admitted) (said : What) (older newer : List Entry) → IsPlain said → newer ≡ entry_of a said ∷ older
    → Plain a older newer
plain_one a said older newer plain is = record { more = said ∷ []; joined = is; each = (plain, tt) }

plain_two : (a : Admitted) (said before : What) (older newer : List Entry) → IsPlain said → IsPlain before
    → newer ≡ entry_of a said ∷ entry_of a before ∷ older → Plain a older newer
plain_two a said before older newer plain first is = record { more = said ∷ before ∷ []; joined = is; each = (plain, (first, tt)) }

-- ---- each line

module _ (a : Admitted) (log after : List Entry) (end : LineEnd) where
  ends_wrote : (cause : Cause) → EndsBy cause log after end → Plain a log after
  ends_wrote cause ends = plain_none a log after ends.0

  tag_wrote : (tag : TagName) (f g : Reg) (fetched : Result (Option Fetched) RegFault) → TagFetched a tag f g log after end fetched
      → Plain a log after
  tag_wrote tag f g (Ok (Some m)) came = plain_one a (ReadTag tag m.media m.bytes) log after tt came.writes
  tag_wrote tag f g (Ok None) ends = ends_wrote _ ends
  tag_wrote tag f g (Err fault) ends = ends_wrote _ ends

  look_wrote : (tag : TagName) (w : Work) (found : Option Digest) (how : Option How) → LookEnds a tag w found log after end how
      → Plain a log after
  look_wrote tag w found None ends = plain_one a (Looked tag found) log after tt ends.0
  look_wrote tag w found (Some how) ends = plain_two a (Show tag w.walk.root found how) (Looked tag found) log after tt tt ends.0

  looked_wrote : (tag : TagName) (w : Work) (p q : Reg) (found : Result (Option Digest) RegFault)
      → LookFound a tag w p q log after end found → Plain a log after
  looked_wrote tag w p q (Ok found) finds = look_wrote tag w found (decide found w.walk.root a.spec.override_it) finds
  looked_wrote tag w p q (Err fault) ends = ends_wrote _ ends

  compared_wrote : (w : Work) (d : Digest) (m : Fetched) (same : Bool) → ChildCompared same a w d m log after end → Plain a log after
  compared_wrote w d m true came = plain_one a (ReadChild d m.media m.bytes) log after tt came.writes
  compared_wrote w d m false ends = ends_wrote _ ends

  child_wrote : (w : Work) (d : Digest) (f g : Reg) (fetched : Result (Option Fetched) RegFault)
      → ChildFetched a w d f g log after end fetched → Plain a log after
  child_wrote w d f g (Ok (Some m)) came = compared_wrote w d m (digest_eq (digest_of m.bytes) d) came
  child_wrote w d f g (Ok None) ends = ends_wrote _ ends
  child_wrote w d f g (Err fault) ends = ends_wrote _ ends

  blob_wrote : (w : Work) (d : Digest) (p q : Reg) (found : Result (Option ℕ) RegFault) → BlobAsked a w d p q log after end found
      → Plain a log after
  blob_wrote w d p q (Ok len) found = plain_one a (HasBlob d len) log after tt found.writes
  blob_wrote w d p q (Err fault) ends = ends_wrote _ ends

  copy_wrote : (w : Work) (d : Digest) (said : ℕ) (copied : Result ℕ NotCopied) → CopyEnds a w d said log after end copied
      → Plain a log after
  copy_wrote w d said (Ok len) ends = plain_two a (PutBlob d true) (GotBlob d len) log after tt tt ends.0
  copy_wrote w d said (Err copy.Gone) ends = ends_wrote _ ends
  copy_wrote w d said (Err (copy.Unopened f)) ends = ends_wrote _ ends
  copy_wrote w d said (Err (copy.Unbegun f)) ends = ends_wrote _ ends
  copy_wrote w d said (Err (copy.Unread f)) ends = ends_wrote _ ends
  copy_wrote w d said (Err (copy.Unwritten f)) ends = ends_wrote _ ends
  copy_wrote w d said (Err (copy.TooLong len)) ends = ends_wrote _ ends
  copy_wrote w d said (Err (copy.Differs got)) ends = ends_wrote _ ends
  copy_wrote w d said (Err (copy.SizeDiffers got)) ends = plain_one a (GotBlob d got) log after tt ends.0
  copy_wrote w d said (Err (copy.Unsure len f)) ends = plain_two a (PutBlob d false) (GotBlob d len) log after tt tt ends.0

  put_wrote : (w : Work) (d : Digest) (p q : Reg) (put : Result ⊤ RegFault) → ChildStored a w d p q log after end put
      → Plain a log after
  put_wrote w d p q (Ok done) stores = plain_one a (PutChild d true) log after tt stores.0
  put_wrote w d p q (Err fault) stores = plain_one a (PutChild d false) log after tt stores.0

  stored_wrote : (tag : TagName) (root : Digest) (found : Option Digest) (mid q : Reg) (put : Result ⊤ RegFault)
      → RootStored a tag root found mid q log after end put → Plain a log after
  stored_wrote tag root found mid q (Ok done) stores = plain_one a (Show tag root found Put) log after tt stores.0
  stored_wrote tag root found mid q (Err fault) stores = plain_one a (Show tag root found Unsure) log after tt stores.0

  decided_wrote : (tag : TagName) (w : Work) (found : Option Digest) (mid q : Reg) (how : Option How)
      → RootDecided a tag w found mid q log after end how → Plain a log after
  decided_wrote tag w found mid q None puts = stored_wrote tag w.walk.root found mid q puts.put puts.stores
  decided_wrote tag w found mid q (Some how) ends = plain_one a (Show tag w.walk.root found how) log after tt ends.1

  root_wrote : (tag : TagName) (w : Work) (p mid q : Reg) (found : Result (Option Digest) RegFault)
      → RootLooked a tag w p mid q log after end found → Plain a log after
  root_wrote tag w p mid q (Ok found) finds = decided_wrote tag w found mid q (decide found w.walk.root a.spec.override_it) finds
  root_wrote tag w p mid q (Err fault) ends = ends_wrote _ ends.1

  store_wrote : (tag : TagName) (w : Work) (d : Digest) (p q : Reg) (root : Bool) → StoreLine root a tag w d p q log after end
      → Plain a log after
  store_wrote tag w d p q true line = root_wrote tag w p line.mid q line.found line.finds
  store_wrote tag w d p q false line = put_wrote w d p q line.put line.stores

  walk_wrote : (tag : TagName) (w : Work) (f g p q : Reg) (x : Need) → WalkLine x a tag w f g p q log after end → Plain a log after
  walk_wrote tag w f g p q (need.Manifest d) line = child_wrote w d f g line.1.fetched line.1.comes
  walk_wrote tag w f g p q (need.HasBlob d) line = blob_wrote w d p q line.1.found line.1.finds
  walk_wrote tag w f g p q (need.CopyBlob d) line = copy_wrote w d line.said line.copied line.ends
  walk_wrote tag w f g p q (need.PutManifest d) line = store_wrote tag w d p q (digest_eq d w.walk.root) line.1
  walk_wrote tag w f g p q need.Done line = absurd line

  work_wrote : (tag : TagName) (w : Work) (f g p q : Reg) (looked : Bool) → WorkLine looked a tag w f g p q log after end
      → Plain a log after
  work_wrote tag w f g p q true line = walk_wrote tag w f g p q w.walk.need line
  work_wrote tag w f g p q false line = looked_wrote tag w p q line.1.found line.1.finds

  pub line_plain : (tag : TagName) (work : Option Work) (f g p q : Reg) → Line a tag work f g p q log after end → Plain a log after
  line_plain tag None f g p q line = tag_wrote tag f g line.1.fetched line.1.comes
  line_plain tag (Some w) f g p q line = work_wrote tag w f g p q w.looked line

  pub line_unended : (tag : TagName) (work : Option Work) (f g p q : Reg) → Line a tag work f g p q log after end → Unended a log after
  line_unended tag work f g p q line =
      let wrote = line_plain tag work f g p q line in record {
        more = wrote.more;
        joined = wrote.joined;
        each = each_then {P = IsPlain} {Q = EndsNone} plain_ends_none wrote.more wrote.each;
      }

  pub line_wrote : (tag : TagName) (work : Option Work) (f g p q : Reg) → Line a tag work f g p q log after end → Wrote a log after
  line_wrote tag work f g p q line =
      let wrote = line_unended tag work f g p q line in record { more = wrote.more; joined = wrote.joined }
