-- The lines that put nothing leave a destination that is quiet, and tells, with its promise and with
-- the work that goes on.
use Rattle.std.proofs.Common.{◌≡◌, refl, sym, ap, subst, ◌∙◌, ℕ, Bool, true, false, List, [], ◌∷◌, length}
use Rattle.std.specs.Prelude.{◌≢◌, Option, Some, None, IfSome, IsTrue, Result, Ok, Err, option_map}
use Rattle.hr_base.specs.Bytes.{ByteList, Media}
use Rattle.hr_digest.specs.Digest.{digest_of}
use Rattle.hr_digest.specs.Order.{digest_eq}
use Rattle.hr_digest.specs.declared.digest.Digest.{Digest}
use Rattle.hr_name.specs.Tag.{TagName}
use Rattle.hr_event.specs.declared.cause.Cause.{Cause}
use Rattle.hr_event.specs.declared.entry.Entry.{Entry}
use Rattle.hr_event.specs.declared.entry.How.{How}
use Rattle.hr_event.specs.declared.entry.How.TheVariants.{Put, Unsure, Same, Kept}
use Rattle.hr_event.specs.declared.entry.What.{What}
use Rattle.hr_event.specs.declared.entry.What.TheVariants.{ReadTag, Looked, ReadChild, HasBlob, Show}
use Rattle.hr_event.specs.declared.reference.Fetched.{Fetched}
use Rattle.hr_event.specs.declared.reference.Reference.TheVariants as by
use Rattle.hr_manifest.specs.Manifest.{Parts}
use Rattle.hr_manifest.specs.Reading.{Reads}
use Rattle.hr_manifest.specs.declared.refusal.Unreadable.{Unreadable}
use Rattle.hr_graph.specs.Sound.{Asks, AsksBlob, AsksManifest, IsReady}
use Rattle.hr_graph.specs.Walk.{Answers}
use Rattle.hr_graph.specs.declared.need.Given.TheVariants as given
use Rattle.hr_graph.specs.declared.need.Need.{Need}
use Rattle.hr_graph.specs.declared.need.Need.TheVariants as need
use Rattle.hr_graph.specs.declared.opened.Opened.{Opened}
use Rattle.hr_graph.proofs.WalkLaws.{asked_closed}
use Rattle.hr_adapter.specs.Calls.{FindsBlob, Found, Heads}
use Rattle.hr_adapter.specs.Content.{Content, blob_at, head_at}
use Rattle.hr_adapter.specs.Reg.{Reg}
use Rattle.hr_adapter.specs.declared.fault.RegFault.{RegFault}
use Rattle.hr_journal.specs.Grows.{Grows}
use Rattle.hr_journal.specs.OneEach.{OneEach}
use Rattle.hr_journal.specs.Promise.{Promise}
use Rattle.hr_journal.specs.Puts.{DoesAs, IsLeft}
use Rattle.hr_journal.specs.Says.{Placement, child_read, read_under}
use Rattle.hr_journal.specs.Still.{PutsNoTag}
use Rattle.hr_journal.proofs.PromiseLaws.{child_read_itself, does_grow, does_here, last_answered, promise_does, read_under_itself}
use Rattle.hr_line.specs.Destination.{EndStands, IsReadable, WorkStands, stored_of}
use Rattle.hr_line.specs.Line.{BlobAsked, BlobLine, ChildCompared, ChildFetched, ChildGoes, ChildLine, EndsBy, IsReading, LineEnd, LookEnds, LookFound, LookLine, RootGoes, TagFetched, TagLine, decide, entry_of}
use Rattle.hr_line.specs.declared.held.Admitted.{Admitted}
use Rattle.hr_line.specs.declared.held.Work.{Work}
use Rattle.hr_line.proofs.CalmLemmas.{IsCalm, asked_told, digest_same, look_leaves}
use Rattle.hr_line.proofs.LastLemmas.{LastRead, last_read_still, root_read}
use Rattle.hr_line.proofs.StandsLemmas.{AnswerStands, begins_stands, child_stands, entry_stands, goes_stands}

-- ---- what a line leaves

pub grows_itself : (c : Content) → Grows c c
grows_itself c = record {
  blobs = λ repo d len is. is;
  manifests = λ repo d before is. record { stored = before; there = is; bytes = refl; reads = λ kids reads. reads };
}

-- a destination that had this content after a line with this end: its promise, and that nothing was
-- lost, and the work that goes on
pub record LineStands (to : Placement) (o : Content) (a : Admitted) (tag : TagName) (after : List Entry) (b : Content) (q : Reg)
    (end : LineEnd) : Type 0 where
  pub content : Content
  pub told : q.told ≡ Some content
  pub quiet : IsTrue q.quiet
  pub promise : Promise to o after content
  pub grows : OneEach to o after → Grows b content
  pub stands : EndStands to o a tag after content end

module _ (to : Placement) (o : Content) (a : Admitted) (tag : TagName) (placed : to a.job.0 a.rev ≡ Some a.spec.to) where
  -- the journal and the end are these
  pub as_is : (after newer : List Entry) (b : Content) (q : Reg) (end now : LineEnd) → after ≡ newer → end ≡ now
      → LineStands to o a tag newer b q now → LineStands to o a tag after b q end
  as_is after newer b q end now writes ends stands =
      subst (λ (es : List Entry). LineStands to o a tag es b q end) (sym writes)
      (subst (λ (e : LineEnd). LineStands to o a tag newer b q e) (sym ends) stands)

  -- the revision ends, and nothing is written
  pub nothing : (cause : Cause) (log after : List Entry) (b : Content) (q : Reg) (end : LineEnd) → q.told ≡ Some b → IsTrue q.quiet
      → Promise to o log b → EndsBy cause log after end → LineStands to o a tag after b q end
  nothing cause log after b q end told quiet promise ends =
      as_is after log b q end (Err cause) ends.0 ends.1 (record {
        content = b;
        told = told;
        quiet = quiet;
        promise = promise;
        grows = λ each. grows_itself b;
        stands = tt;
      })

  -- an entry that puts no tag keeps the promise
  pub entry_kept : (said : What) (log : List Entry) (b c : Content) → Promise to o log b
      → DoesAs said a.spec.to (entry_of a said) log b c → PutsNoTag said → Promise to o (entry_of a said ∷ log) c
  entry_kept said log b c promise does none =
      promise_does to a.spec.to o (entry_of a said) said log b c promise placed refl does none

  -- and loses nothing
  pub entry_grows : (said : What) (log : List Entry) (b c : Content) → Promise to o log b
      → DoesAs said a.spec.to (entry_of a said) log b c → OneEach to o (entry_of a said ∷ log) → Grows b c
  entry_grows said log b c promise does =
      does_grow to o (entry_of a said) log b c promise.puts
      (does_here to a.spec.to (entry_of a said) said log b c placed refl does)

  -- the work stands with an entry that reads no manifest
  pub entry_work : (said : What) (log : List Entry) (b c : Content) (w : Work) → Promise to o log b
      → DoesAs said a.spec.to (entry_of a said) log b c
      → ((t : TagName) → read_under t said ≡ None) → ((d : Digest) → child_read d said ≡ None)
      → WorkStands to o a tag log b w → WorkStands to o a tag (entry_of a said ∷ log) c w
  entry_work said log b c w promise does tags kids work = record {
    sound = work.sound;
    going = work.going;
    walk = entry_stands to o a tag log w.walk b c said (entry_grows said log b c promise does) tags kids work.walk;
  }

  -- an entry was written that puts no tag
  pub wrote : (said : What) (log after : List Entry) (b c : Content) (q : Reg) (end : LineEnd) → q.told ≡ Some c → IsTrue q.quiet
      → Promise to o log b → DoesAs said a.spec.to (entry_of a said) log b c → PutsNoTag said
      → after ≡ entry_of a said ∷ log → EndStands to o a tag (entry_of a said ∷ log) c end
      → LineStands to o a tag after b q end
  wrote said log after b c q end told quiet promise does none writes stands =
      as_is after (entry_of a said ∷ log) b q end end writes refl (record {
        content = c;
        told = told;
        quiet = quiet;
        promise = entry_kept said log b c promise does none;
        grows = entry_grows said log b c promise does;
        stands = stands;
      })

  pub ended : (log : List Entry) (c : Content) (cause : Cause) (end : LineEnd) → end ≡ Err cause → EndStands to o a tag log c end
  ended log c cause end is = subst (λ (e : LineEnd). EndStands to o a tag log c e) (sym is) tt

  -- ---- a manifest that came

  reads_as : (m : Fetched) (parts : Parts) → parts.media ≡ m.media → parts.bytes ≡ m.bytes
      → Reads m.media m.bytes parts.children → IsReadable parts
  reads_as m parts media bytes reads =
      subst (λ (x : Media). Reads x parts.bytes parts.children) (sym media)
      (subst (λ (y : ByteList). Reads m.media y parts.children) (sym bytes) reads)

  stored_is : (m : Fetched) (parts : Parts) → parts.media ≡ m.media → parts.bytes ≡ m.bytes
      → Some (record { media = m.media; bytes = m.bytes }) ≡ Some (stored_of parts)
  stored_is m parts media bytes =
      ap (λ (x : Media). Some (record { media = x; bytes = m.bytes })) (sym media)
      ∙ ap (λ (y : ByteList). Some (record { media = parts.media; bytes = y })) (sym bytes)

  -- read the tag at the source
  pub tag_stands : (f g p : Reg) (log after : List Entry) (b : Content) (end : LineEnd) → IsCalm p b → Promise to o log b
      → TagLine a tag f g log after end → LineStands to o a tag after b p end
  tag_stands f g p log after b end calm promise line = at line.fetched line.comes
    where
      goes : (m : Fetched) (reading : Result Parts Unreadable) → IsReading m reading → RootGoes (digest_of m.bytes) reading end
          → EndStands to o a tag (entry_of a (ReadTag tag m.media m.bytes) ∷ log) b end
      goes m (Ok parts) reads begins =
          begins_stands to o a tag (entry_of a (ReadTag tag m.media m.bytes) ∷ log) b (digest_of m.bytes) parts end
          (ap digest_of reads.1)
          (last_answered (read_under tag) (entry_of a (ReadTag tag m.media m.bytes)) log (record { media = m.media; bytes = m.bytes })
          (read_under_itself tag m.media m.bytes) ∙ stored_is m parts reads.0 reads.1)
          (reads_as m parts reads.0 reads.1 reads.2) begins
      goes m (Err refused) reads is = ended (entry_of a (ReadTag tag m.media m.bytes) ∷ log) b _ end is

      at : (fetched : Result (Option Fetched) RegFault) → TagFetched a tag f g log after end fetched
          → LineStands to o a tag after b p end
      at (Err fault) ends = nothing _ log after b p end calm.told calm.quiet promise ends
      at (Ok None) ends = nothing _ log after b p end calm.told calm.quiet promise ends
      at (Ok (Some m)) came =
          wrote (ReadTag tag m.media m.bytes) log after b b p end calm.told calm.quiet promise refl tt came.writes
          (goes m came.reading came.reads came.goes)

  -- read a child manifest at the source
  pub child_line_stands : (w : Work) (d : Digest) (f g p : Reg) (log after : List Entry) (b : Content) (end : LineEnd) → IsCalm p b
      → Promise to o log b → WorkStands to o a tag log b w → w.walk.need ≡ need.Manifest d → ChildLine a w d f g log after end
      → LineStands to o a tag after b p end
  child_line_stands w d f g p log after b end calm promise work is line = at line.fetched line.comes
    where
      goes : (m : Fetched) → digest_of m.bytes ≡ d → (reading : Result Parts Unreadable) → IsReading m reading
          → ChildGoes w d reading end → EndStands to o a tag (entry_of a (ReadChild d m.media m.bytes) ∷ log) b end
      goes m own (Ok parts) reads goes_on =
          let newer = entry_of a (ReadChild d m.media m.bytes) ∷ log in
          goes_stands to o a tag newer b w (given.Manifest parts) end (record {
            sound = work.sound;
            going = work.going;
            walk = child_stands to o a tag log w.walk b d m.media m.bytes (asked_closed w.walk d is work.sound) work.walk;
          })
          (subst (λ (n : Need). Answers n (given.Manifest parts)) (sym is) (ap digest_of reads.1 ∙ own))
          (λ e. let other : need.Manifest d ≡ need.PutManifest w.walk.root = sym is ∙ e in cc)
          (subst (λ (n : Need). AnswerStands to o a tag newer b w.walk n (given.Manifest parts)) (sym is) (
            last_answered (child_read d) (entry_of a (ReadChild d m.media m.bytes)) log (record { media = m.media; bytes = m.bytes })
                (child_read_itself d m.media m.bytes) ∙ stored_is m parts reads.0 reads.1,
            reads_as m parts reads.0 reads.1 reads.2,
          ))
          goes_on
      goes m own (Err refused) reads ends = ended (entry_of a (ReadChild d m.media m.bytes) ∷ log) b _ end ends

      compared : (m : Fetched) (same : Bool) → digest_eq (digest_of m.bytes) d ≡ same → ChildCompared same a w d m log after end
          → LineStands to o a tag after b p end
      compared m true e came =
          let own = digest_same (digest_of m.bytes) d e in
          wrote (ReadChild d m.media m.bytes) log after b b p end calm.told calm.quiet promise
          (record { own = own; same = refl }) tt came.writes (goes m own came.reading came.reads came.goes)
      compared m false e ends = nothing _ log after b p end calm.told calm.quiet promise ends

      at : (fetched : Result (Option Fetched) RegFault) → ChildFetched a w d f g log after end fetched
          → LineStands to o a tag after b p end
      at (Err fault) ends = nothing _ log after b p end calm.told calm.quiet promise ends
      at (Ok None) ends = nothing _ log after b p end calm.told calm.quiet promise ends
      at (Ok (Some m)) came = compared m (digest_eq (digest_of m.bytes) d) refl came

  -- ---- blobs

  -- look for a blob at the destination
  pub blob_line_stands : (w : Work) (d : Digest) (p q : Reg) (log after : List Entry) (b : Content) (end : LineEnd) → IsCalm p b
      → Promise to o log b → WorkStands to o a tag log b w → w.walk.need ≡ need.HasBlob d → BlobLine a w d p q log after end
      → LineStands to o a tag after b q end
  blob_line_stands w d p q log after b end calm promise work is line = at line.found line.asks line.finds
    where
      answers : (newer : List Entry) (len : Option ℕ) → len ≡ option_map length (blob_at b a.spec.to d)
          → AnswerStands to o a tag newer b w.walk (need.HasBlob d) (given.Found len)
      answers newer (Some n) found = sym found
      answers newer None found = tt

      at : (found : Result (Option ℕ) RegFault) → FindsBlob a.spec.to d p q found → BlobAsked a w d p q log after end found
          → LineStands to o a tag after b q end
      at (Err fault) asks ends =
          nothing _ log after b q end (asked_told p q (Err fault) b calm asks.asks) (asks.asks.left.quiet calm.quiet) promise ends
      at (Ok len) asks found =
          let told = asked_told p q (Ok len) b calm asks.asks in
          let newer = entry_of a (HasBlob d len) ∷ log in
          let there : len ≡ option_map length (blob_at b a.spec.to d) =
          subst (λ (t : Option Content). IfSome t (λ c. len ≡ option_map length (blob_at c a.spec.to d))) told asks.told in
          wrote (HasBlob d len) log after b b q end told (asks.asks.left.quiet calm.quiet) promise
          (record { found = there; same = refl }) tt found.writes
          (goes_stands to o a tag newer b w (given.Found len) end
          (entry_work (HasBlob d len) log b b w promise (record { found = there; same = refl }) (λ t. refl) (λ k. refl) work)
          (subst (λ (n : Need). Answers n (given.Found len)) (sym is) tt)
          (λ e. let other : need.HasBlob d ≡ need.PutManifest w.walk.root = sym is ∙ e in cc)
          (subst (λ (n : Need). AnswerStands to o a tag newer b w.walk n (given.Found len)) (sym is) (answers newer len there))
          found.goes)

  -- ---- the look

  -- the tag is left as it was
  pub left_does : (log : List Entry) (b : Content) (d : Digest) (old : Option Digest) (how : How) → LastRead a tag log d
      → old ≡ head_at b a.spec.to (by.Tag tag) → IsLeft how d old
      → DoesAs (Show tag d old how) a.spec.to (entry_of a (Show tag d old how)) log b b
  left_does log b d old Put read looked left = absurd left
  left_does log b d old Unsure read looked left = absurd left
  left_does log b d old Same read looked left = record {
    stored = read.stored;
    kids = read.kids;
    own = read.own;
    reads = read.reads;
    read = read.read;
    looked = looked;
    left = left;
    same = refl;
  }
  left_does log b d old Kept read looked left = record {
    stored = read.stored;
    kids = read.kids;
    own = read.own;
    reads = read.reads;
    read = read.read;
    looked = looked;
    left = left;
    same = refl;
  }

  left_puts_none : (d : Digest) (old : Option Digest) (how : How) → IsLeft how d old → PutsNoTag (Show tag d old how)
  left_puts_none d old Put left = absurd left
  left_puts_none d old Unsure left = absurd left
  left_puts_none d old Same left = tt
  left_puts_none d old Kept left = tt

  -- the tag was finished by a look
  pub left_stands : (log after : List Entry) (b : Content) (q : Reg) (end : LineEnd) (d : Digest) (old : Option Digest) (how : How)
      → q.told ≡ Some b → IsTrue q.quiet → Promise to o log b → LastRead a tag log d → old ≡ head_at b a.spec.to (by.Tag tag)
      → IsLeft how d old → after ≡ entry_of a (Show tag d old how) ∷ log → end ≡ Ok None → LineStands to o a tag after b q end
  left_stands log after b q end d old how told quiet promise read looked left writes ends =
      wrote (Show tag d old how) log after b b q end told quiet promise (left_does log b d old how read looked left)
      (left_puts_none d old how left) writes
      (subst (λ (e : LineEnd). EndStands to o a tag (entry_of a (Show tag d old how) ∷ log) b e) (sym ends) tt)

  -- what a look found is what the tag names
  pub looked_at : (p q : Reg) (found : Option Digest) (b : Content) → IsCalm p b → Heads a.spec.to (by.Tag tag) p q (Ok found)
      → found ≡ head_at b a.spec.to (by.Tag tag)
  looked_at p q found b calm asks =
      subst (λ (t : Option Content). IfSome t (λ c. found ≡ head_at c a.spec.to (by.Tag tag)))
      (asked_told p q (Ok found) b calm asks.asks) asks.told

  -- the root was read under the tag
  pub root_was_read : (log : List Entry) (b : Content) (w : Work) → WorkStands to o a tag log b w
      → LastRead a tag log w.walk.root
  root_was_read log b w work =
      root_read a tag log w.walk.root w.walk.opened (some_open w.walk.need refl) work.sound.steady.chain work.walk.readable work.walk.read
    where
      asks_blob : (d : Digest) (opened : List Opened) → AsksBlob w.walk.blobs w.walk.manifests d opened → opened ≢ []
      asks_blob d [] asks none = asks
      asks_blob d (p ∷ below) asks none = cc

      asks_manifest : (d : Digest) (opened : List Opened) → AsksManifest w.walk.blobs w.walk.manifests d opened → opened ≢ []
      asks_manifest d [] asks none = asks
      asks_manifest d (p ∷ below) asks none = cc

      is_ready : (d : Digest) (opened : List Opened) → IsReady d opened → opened ≢ []
      is_ready d [] asks none = asks
      is_ready d (p ∷ below) asks none = cc

      asks_at : (x : Need) → w.walk.need ≡ x → Asks w.walk.blobs w.walk.manifests x w.walk.opened
      asks_at x is = subst (λ (n : Need). Asks w.walk.blobs w.walk.manifests n w.walk.opened) is work.sound.asks

      some_open : (x : Need) → w.walk.need ≡ x → w.walk.opened ≢ []
      some_open (need.Manifest d) is = asks_manifest d w.walk.opened (asks_at (need.Manifest d) is)
      some_open (need.HasBlob d) is = asks_blob d w.walk.opened (asks_at (need.HasBlob d) is)
      some_open (need.CopyBlob d) is = asks_blob d w.walk.opened (asks_at (need.CopyBlob d) is)
      some_open (need.PutManifest d) is = is_ready d w.walk.opened (asks_at (need.PutManifest d) is)
      some_open need.Done is = absurd (work.going is)

  -- look at the destination
  pub look_line_stands : (w : Work) (p q : Reg) (log after : List Entry) (b : Content) (end : LineEnd) → IsCalm p b
      → Promise to o log b → WorkStands to o a tag log b w → LookLine a tag w p q log after end
      → LineStands to o a tag after b q end
  look_line_stands w p q log after b end calm promise work line = at line.found line.asks line.finds
    where
      -- the tag was looked at
      looks : (found : Option Digest) → found ≡ head_at b a.spec.to (by.Tag tag)
          → DoesAs (Looked tag found) a.spec.to (entry_of a (Looked tag found)) log b b
      looks found at = record { looked = at; same = refl }

      decided : (found : Option Digest) → Heads a.spec.to (by.Tag tag) p q (Ok found) → (how : Option How)
          → decide found w.walk.root a.spec.override_it ≡ how → LookEnds a tag w found log after end how
          → LineStands to o a tag after b q end
      decided found asks None is ends =
          let found_at = looked_at p q found b calm asks in
          let now = entry_work (Looked tag found) log b b w promise (looks found found_at) (λ t. refl) (λ k. refl) work in
          wrote (Looked tag found) log after b b q end (asked_told p q (Ok found) b calm asks.asks) (asks.asks.left.quiet calm.quiet) promise
          (looks found found_at) tt ends.0
          (subst (λ (e : LineEnd). EndStands to o a tag (entry_of a (Looked tag found) ∷ log) b e) (sym ends.1)
          (record { sound = now.sound; going = now.going; walk = now.walk }))
      decided found asks (Some how) is ends =
          let found_at = looked_at p q found b calm asks in
          let middle = entry_of a (Looked tag found) ∷ log in
          left_stands middle after b q end w.walk.root found how (asked_told p q (Ok found) b calm asks.asks)
          (asks.asks.left.quiet calm.quiet) (entry_kept (Looked tag found) log b b promise (looks found found_at) tt)
          (last_read_still a tag (Looked tag found) log w.walk.root (λ t. refl) (root_was_read log b w work)) found_at
          (look_leaves found w.walk.root a.spec.override_it how is) ends.0 ends.1

      at : (found : Result (Option Digest) RegFault) → Heads a.spec.to (by.Tag tag) p q found
          → LookFound a tag w p q log after end found → LineStands to o a tag after b q end
      at (Err fault) asks ends =
          nothing _ log after b q end (asked_told p q (Err fault) b calm asks.asks) (asks.asks.left.quiet calm.quiet) promise ends
      at (Ok found) asks finds = decided found asks (decide found w.walk.root a.spec.override_it) refl finds
