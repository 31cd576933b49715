-- What each line reads is what its source has, where that tells.
use Rattle.std.proofs.Common.{◌≡◌, refl, sym, ap, subst, ◌∙◌, ℕ, Bool, true, false, List, [], ◌∷◌, length}
use Rattle.std.specs.Prelude.{Option, Some, None, IfSome, Result, Ok, Err, Contains, option_and_then, option_map, take, ⊤}
use Rattle.hr_base.specs.Bytes.{ByteList}
use Rattle.hr_digest.specs.Digest.{digest_of}
use Rattle.hr_digest.specs.Order.{digest_eq}
use Rattle.hr_digest.specs.declared.digest.Digest.{Digest}
use Rattle.hr_name.specs.Name.{RepoName}
use Rattle.hr_name.specs.Tag.{TagName}
use Rattle.hr_event.specs.declared.cause.Cause.{Cause}
use Rattle.hr_event.specs.declared.entry.Entry.{Entry}
use Rattle.hr_event.specs.declared.entry.How.{How}
use Rattle.hr_event.specs.declared.entry.How.TheVariants.{Put, Unsure}
use Rattle.hr_event.specs.declared.entry.What.{What}
use Rattle.hr_event.specs.declared.entry.What.TheVariants.{ReadTag, Looked, ReadChild, HasBlob, GotBlob, PutBlob, PutChild, Show}
use Rattle.hr_event.specs.declared.reference.Fetched.{Fetched}
use Rattle.hr_event.specs.declared.reference.Reference.TheVariants as by
use Rattle.hr_graph.specs.declared.need.Need.{Need}
use Rattle.hr_graph.specs.declared.need.Need.TheVariants as need
use Rattle.hr_adapter.specs.Calls.{Asks, Fetches}
use Rattle.hr_adapter.specs.Content.{Content, blob_at, fetch_at, manifest_at, tag_at}
use Rattle.hr_adapter.specs.Put.{Has, as_manifest}
use Rattle.hr_adapter.specs.Reg.{AreShown, BothOrNeither, IsSound, Reg, Retagged}
use Rattle.hr_adapter.specs.declared.fault.RegFault.{RegFault}
use Rattle.hr_adapter.proofs.CallLaws.{Moved-asks, Moved-found}
use Rattle.hr_adapter.proofs.HonestLaws.{Retagged-itself}
use Rattle.hr_blob.specs.Copies.{Ends, IsAllOf, opening}
use Rattle.hr_blob.specs.declared.outcome.NotCopied.{NotCopied}
use Rattle.hr_blob.specs.declared.outcome.NotCopied.TheVariants as copy
use Rattle.hr_journal.specs.Origin.{HadBlob, Origin, ShowedManifest, Source, ToldBefore, WasThere, WereThere}
use Rattle.hr_journal.specs.Still.{ReadsNothing}
use Rattle.hr_journal.proofs.PromiseLaws.{there_on, there_still}
use Rattle.hr_line.specs.Line.{BlobAsked, ChildCompared, ChildFetched, ChildStored, CopyEnds, EndsBy, LineEnd, LookEnds, LookFound, RootDecided, RootLooked, RootStored, TagFetched, decide, entry_of}
use Rattle.hr_line.specs.Sources.{source_seen}
use Rattle.hr_line.specs.Step.{Line, StoreLine, WalkLine, WorkLine}
use Rattle.hr_line.specs.declared.held.Admitted.{Admitted}
use Rattle.hr_line.specs.declared.held.Work.{Work}

-- ---- a source later on

take_whole : {X : Type 0} (xs : List X) → take (length xs) xs ≡ xs
take_whole [] = refl
take_whole (x ∷ xs) = ap (λ (ys : List _). x ∷ ys) (take_whole xs)

-- a connection was only read: tags may have been moved
pub record IsRead (f g : Reg) : Type 0 where
  pub told : BothOrNeither Retagged f.told g.told
  pub ever : g.ever ≡ f.ever

both_itself : (told : Option Content) → BothOrNeither Retagged told told
both_itself (Some c) = Retagged-itself c
both_itself None = tt

pub read_same : (f g : Reg) → g ≡ f → IsRead f g
read_same f g same = subst (λ (x : Reg). IsRead f x) (sym same) (record { told = both_itself f.told; ever = refl })

asked_read : {T : Type 0} (f g : Reg) (result : Result T RegFault) → IsSound f → Asks f g result → IsRead f g
asked_read f g result sound asks = record { told = (Moved-asks f g result sound asks).told; ever = asks.ever }

-- a source that was read is the one that it was, later on
pub told_before : (from : RepoName) (f g : Reg) → IsRead f g → ToldBefore (source_seen from f) (source_seen from g)
told_before from f g read = by f.told g.told read.told
  where
    seen : Reg → Content → Source
    seen reg c = record { content = c; ever = reg.ever; repo = from }

    by : (before after : Option Content) → BothOrNeither Retagged before after
        → ToldBefore (option_map (λ c. record { content = c; ever = f.ever; repo = from }) before)
        (option_map (λ c. record { content = c; ever = g.ever; repo = from }) after)
    by (Some c) (Some d) moved = record {
      moved = moved;
      grew = ap (take (length f.ever)) read.ever ∙ take_whole f.ever;
      place = refl;
    }
    by None None moved = tt
    by (Some c) None moved = absurd moved
    by None (Some d) moved = absurd moved

-- ---- each line only reads its source

store_read : (root : Bool) (a : Admitted) (tag : TagName) (w : Work) (d : Digest) (f g p q : Reg) (log after : List Entry) (end : LineEnd)
    → g ≡ f → StoreLine root a tag w d p q log after end → IsRead f g
store_read root a tag w d f g p q log after end same line = read_same f g same

walk_read : (a : Admitted) (tag : TagName) (w : Work) (f g p q : Reg) (log after : List Entry) (end : LineEnd) → IsSound f
    → (x : Need) → WalkLine x a tag w f g p q log after end → IsRead f g
walk_read a tag w f g p q log after end sound (need.Manifest d) line = asked_read f g line.1.fetched sound line.1.asks.asks
walk_read a tag w f g p q log after end sound (need.HasBlob d) line = read_same f g line.0
walk_read a tag w f g p q log after end sound (need.CopyBlob d) line = record {
  told = (Moved-found f g (opening line.copied) sound line.copies.source.found).told;
  ever = line.copies.source.ever;
}
walk_read a tag w f g p q log after end sound (need.PutManifest d) line = read_same f g line.0
walk_read a tag w f g p q log after end sound need.Done line = absurd line

work_read : (a : Admitted) (tag : TagName) (w : Work) (f g p q : Reg) (log after : List Entry) (end : LineEnd) → IsSound f
    → (looked : Bool) → WorkLine looked a tag w f g p q log after end → IsRead f g
work_read a tag w f g p q log after end sound true line = walk_read a tag w f g p q log after end sound w.walk.need line
work_read a tag w f g p q log after end sound false line = read_same f g line.0

pub line_read : (a : Admitted) (tag : TagName) (work : Option Work) (f g p q : Reg) (log after : List Entry) (end : LineEnd) → IsSound f
    → Line a tag work f g p q log after end → IsRead f g
line_read a tag None f g p q log after end sound line = asked_read f g line.1.fetched sound line.1.asks.asks
line_read a tag (Some w) f g p q log after end sound line = work_read a tag w f g p q log after end sound w.looked line

-- ---- what was read is there

-- a source that tells has what an entry says
abbrev IsThere : RepoName → Reg → What → Type 0
IsThere from g said = IfSome (source_seen from g) (λ s. WasThere s said)

module _ (from : RepoName) (g : Reg) (sound : IsSound g) where
  tag_shown : (tag : TagName) (m : Fetched) → IfSome g.told (λ c. Some m ≡ fetch_at c from (by.Tag tag))
      → IsThere from g (ReadTag tag m.media m.bytes)
  tag_shown tag m told = at g.told told sound.shown
    where
      named : (c : Content) (target : Option Digest) → Some m ≡ option_and_then (manifest_at c from) target
          → (d : Digest) × (manifest_at c from d ≡ Some m)
      named c (Some d) is = (d, sym is)
      named c None is = cc

      row : (c : Content) (found : Option Fetched) → Some m ≡ found
          → IfSome found (λ x. Contains g.ever (record { repo = from; tag = tag; media = x.media; bytes = x.bytes }))
          → Contains g.ever (record { repo = from; tag = tag; media = m.media; bytes = m.bytes })
      row c found is shown =
          subst (λ (x : Option Fetched). IfSome x (λ y. Contains g.ever (record { repo = from; tag = tag; media = y.media; bytes = y.bytes })))
          (sym is) shown

      at : (told : Option Content) → IfSome told (λ c. Some m ≡ fetch_at c from (by.Tag tag)) → IfSome told (λ c. AreShown c g.ever)
          → IfSome (option_map (λ c. record { content = c; ever = g.ever; repo = from }) told)
          (λ s. ShowedManifest s tag m.media m.bytes)
      at None is shown = tt
      at (Some c) is shown =
          let there = named c (tag_at c from tag) is in record {
            shown = row c (fetch_at c from (by.Tag tag)) is (shown from tag);
            digest = there.0;
            there = there.1;
          }

  child_there : (d : Digest) (m : Fetched) → IfSome g.told (λ c. Some m ≡ fetch_at c from (by.Digest d))
      → IsThere from g (ReadChild d m.media m.bytes)
  child_there d m told = at g.told told
    where
      at : (told : Option Content) → IfSome told (λ c. Some m ≡ fetch_at c from (by.Digest d))
          → IfSome {T = Source} (option_map (λ c. record { content = c; ever = g.ever; repo = from }) told)
          (λ s. manifest_at s.content s.repo d ≡ Some (as_manifest m.media m.bytes))
      at None is = tt
      at (Some c) is = sym is

  blob_there : (d : Digest) (bytes : ByteList) (len : ℕ) → Has d bytes → IsAllOf from d g bytes len → IsThere from g (GotBlob d len)
  blob_there d bytes len own all = at g.told all.told
    where
      at : (told : Option Content) → IfSome told (λ c. blob_at c from d ≡ Some bytes)
          → IfSome (option_map (λ c. record { content = c; ever = g.ever; repo = from }) told) (λ s. HadBlob s d len)
      at None is = tt
      at (Some c) is = record { bytes = bytes; there = is; own = own; long = all.long }

module _ (origin : Origin) (a : Admitted) (g : Reg) (sound : IsSound g) (at : origin a.job.0 a.rev ≡ source_seen a.spec.from g)
    (log after : List Entry) (end : LineEnd) (there : WereThere origin log) where
  none_there : after ≡ log → WereThere origin after
  none_there writes = subst (λ (es : List Entry). WereThere origin es) (sym writes) there

  one_there : (said : What) → IsThere a.spec.from g said → after ≡ entry_of a said ∷ log → WereThere origin after
  one_there said is writes =
      subst (λ (es : List Entry). WereThere origin es) (sym writes)
      (there_on origin (entry_of a said) log there (subst (λ (x : Option Source). IfSome x (λ s. WasThere s said)) (sym at) is))

  still_there : (said : What) → ReadsNothing said → after ≡ entry_of a said ∷ log → WereThere origin after
  still_there said still writes =
      subst (λ (es : List Entry). WereThere origin es) (sym writes) (there_still origin (entry_of a said) log there still)

  -- an entry that reads nothing, after one more
  two_there : (said first : What) → ReadsNothing said → IsThere a.spec.from g first
      → after ≡ entry_of a said ∷ entry_of a first ∷ log → WereThere origin after
  two_there said first still is writes =
      subst (λ (es : List Entry). WereThere origin es) (sym writes)
      (there_still origin (entry_of a said) (entry_of a first ∷ log)
      (there_on origin (entry_of a first) log there (subst (λ (x : Option Source). IfSome x (λ s. WasThere s first)) (sym at) is)) still)

  both_still : (said first : What) → ReadsNothing said → ReadsNothing first
      → after ≡ entry_of a said ∷ entry_of a first ∷ log → WereThere origin after
  both_still said first still before writes =
      subst (λ (es : List Entry). WereThere origin es) (sym writes)
      (there_still origin (entry_of a said) (entry_of a first ∷ log) (there_still origin (entry_of a first) log there before) still)

  ends_there : (cause : Cause) → EndsBy cause log after end → WereThere origin after
  ends_there cause ends = none_there ends.0

  tag_there : (tag : TagName) (f : Reg) (fetched : Result (Option Fetched) RegFault) → Fetches a.spec.from (by.Tag tag) f g fetched
      → TagFetched a tag f g log after end fetched → WereThere origin after
  tag_there tag f (Ok (Some m)) asks came = one_there (ReadTag tag m.media m.bytes) (tag_shown a.spec.from g sound tag m asks.told) came.writes
  tag_there tag f (Ok None) asks ends = ends_there _ ends
  tag_there tag f (Err fault) asks ends = ends_there _ ends

  look_there : (tag : TagName) (w : Work) (found : Option Digest) (how : Option How) → LookEnds a tag w found log after end how
      → WereThere origin after
  look_there tag w found None ends = still_there (Looked tag found) tt ends.0
  look_there tag w found (Some how) ends = both_still (Show tag w.walk.root found how) (Looked tag found) tt tt ends.0

  looked_there : (tag : TagName) (w : Work) (p q : Reg) (found : Result (Option Digest) RegFault)
      → LookFound a tag w p q log after end found → WereThere origin after
  looked_there tag w p q (Ok found) finds = look_there tag w found (decide found w.walk.root a.spec.override_it) finds
  looked_there tag w p q (Err fault) ends = ends_there _ ends

  compared_there : (w : Work) (d : Digest) (m : Fetched) → IfSome g.told (λ c. Some m ≡ fetch_at c a.spec.from (by.Digest d))
      → (same : Bool) → ChildCompared same a w d m log after end → WereThere origin after
  compared_there w d m told true came = one_there (ReadChild d m.media m.bytes) (child_there a.spec.from g sound d m told) came.writes
  compared_there w d m told false ends = ends_there _ ends

  child_fetched : (w : Work) (d : Digest) (f : Reg) (fetched : Result (Option Fetched) RegFault)
      → Fetches a.spec.from (by.Digest d) f g fetched → ChildFetched a w d f g log after end fetched → WereThere origin after
  child_fetched w d f (Ok (Some m)) asks came = compared_there w d m asks.told (digest_eq (digest_of m.bytes) d) came
  child_fetched w d f (Ok None) asks ends = ends_there _ ends
  child_fetched w d f (Err fault) asks ends = ends_there _ ends

  blob_found : (w : Work) (d : Digest) (p q : Reg) (found : Result (Option ℕ) RegFault) → BlobAsked a w d p q log after end found
      → WereThere origin after
  blob_found w d p q (Ok len) found = still_there (HasBlob d len) tt found.writes
  blob_found w d p q (Err fault) ends = ends_there _ ends

  copy_there : (w : Work) (d : Digest) (said : ℕ) (f p q : Reg) (copied : Result ℕ NotCopied)
      → Ends a.spec.from a.spec.to d said f g p q copied → CopyEnds a w d said log after end copied → WereThere origin after
  copy_there w d said f p q (Ok len) copies ends =
      two_there (PutBlob d true) (GotBlob d len) tt (blob_there a.spec.from g sound d copies.bytes len copies.own copies.all) ends.0
  copy_there w d said f p q (Err copy.Gone) copies ends = ends_there _ ends
  copy_there w d said f p q (Err (copy.Unopened x)) copies ends = ends_there _ ends
  copy_there w d said f p q (Err (copy.Unbegun x)) copies ends = ends_there _ ends
  copy_there w d said f p q (Err (copy.Unread x)) copies ends = ends_there _ ends
  copy_there w d said f p q (Err (copy.Unwritten x)) copies ends = ends_there _ ends
  copy_there w d said f p q (Err (copy.TooLong len)) copies ends = ends_there _ ends
  copy_there w d said f p q (Err (copy.Differs got)) copies ends = ends_there _ ends
  copy_there w d said f p q (Err (copy.SizeDiffers got)) copies ends =
      one_there (GotBlob d got) (blob_there a.spec.from g sound d copies.1.bytes got copies.1.own copies.1.all) ends.0
  copy_there w d said f p q (Err (copy.Unsure len x)) copies ends =
      two_there (PutBlob d false) (GotBlob d len) tt (blob_there a.spec.from g sound d copies.0.bytes len copies.0.own copies.0.all) ends.0

  put_there : (w : Work) (d : Digest) (p q : Reg) (put : Result ⊤ RegFault) → ChildStored a w d p q log after end put
      → WereThere origin after
  put_there w d p q (Ok done) stores = still_there (PutChild d true) tt stores.0
  put_there w d p q (Err fault) stores = still_there (PutChild d false) tt stores.0

  stored_there : (tag : TagName) (root : Digest) (found : Option Digest) (mid q : Reg) (put : Result ⊤ RegFault)
      → RootStored a tag root found mid q log after end put → WereThere origin after
  stored_there tag root found mid q (Ok done) stores = still_there (Show tag root found Put) tt stores.0
  stored_there tag root found mid q (Err fault) stores = still_there (Show tag root found Unsure) tt stores.0

  decided_there : (tag : TagName) (w : Work) (found : Option Digest) (mid q : Reg) (how : Option How)
      → RootDecided a tag w found mid q log after end how → WereThere origin after
  decided_there tag w found mid q None puts = stored_there tag w.walk.root found mid q puts.put puts.stores
  decided_there tag w found mid q (Some how) ends = still_there (Show tag w.walk.root found how) tt ends.1

  root_there : (tag : TagName) (w : Work) (p mid q : Reg) (found : Result (Option Digest) RegFault)
      → RootLooked a tag w p mid q log after end found → WereThere origin after
  root_there tag w p mid q (Ok found) finds = decided_there tag w found mid q (decide found w.walk.root a.spec.override_it) finds
  root_there tag w p mid q (Err fault) ends = ends_there _ ends.1

  store_there : (tag : TagName) (w : Work) (d : Digest) (p q : Reg) (root : Bool) → StoreLine root a tag w d p q log after end
      → WereThere origin after
  store_there tag w d p q true line = root_there tag w p line.mid q line.found line.finds
  store_there tag w d p q false line = put_there w d p q line.put line.stores

  walk_there : (tag : TagName) (w : Work) (f p q : Reg) (x : Need) → WalkLine x a tag w f g p q log after end → WereThere origin after
  walk_there tag w f p q (need.Manifest d) line = child_fetched w d f line.1.fetched line.1.asks line.1.comes
  walk_there tag w f p q (need.HasBlob d) line = blob_found w d p q line.1.found line.1.finds
  walk_there tag w f p q (need.CopyBlob d) line = copy_there w d line.said f p q line.copied line.copies.ends line.ends
  walk_there tag w f p q (need.PutManifest d) line = store_there tag w d p q (digest_eq d w.walk.root) line.1
  walk_there tag w f p q need.Done line = absurd line

  work_there : (tag : TagName) (w : Work) (f p q : Reg) (looked : Bool) → WorkLine looked a tag w f g p q log after end
      → WereThere origin after
  work_there tag w f p q true line = walk_there tag w f p q w.walk.need line
  work_there tag w f p q false line = looked_there tag w p q line.1.found line.1.finds

  -- what a line reads is what the source has
  pub line_there : (tag : TagName) (work : Option Work) (f p q : Reg) → Line a tag work f g p q log after end → WereThere origin after
  line_there tag None f p q line = tag_there tag f line.1.fetched line.1.asks line.1.comes
  line_there tag (Some w) f p q line = work_there tag w f p q w.looked line
