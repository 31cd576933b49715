-- The lines that put something leave a destination that is quiet, and tells, with its promise and
-- with the work that goes on; and so each line does.
use Rattle.std.proofs.Common.{◌≡◌, inl, inr, refl, sym, ap, subst, ◌∙◌, ℕ, Bool, true, false, List, [], ◌∷◌, length}
use Rattle.std.specs.Prelude.{◌≢◌, Option, Some, None, IfSome, IsTrue, Result, Ok, Err, option_map, ⊤}
use Rattle.std.specs.List.{AllByRecursion}
use Rattle.hr_base.specs.Bytes.{ByteList}
use Rattle.hr_digest.specs.Digest.{digest_of}
use Rattle.hr_digest.specs.Order.{digest_eq}
use Rattle.hr_digest.specs.declared.digest.Digest.{Digest}
use Rattle.hr_name.specs.Tag.{TagName}
use Rattle.hr_event.specs.declared.entry.Entry.{Entry}
use Rattle.hr_event.specs.declared.entry.How.{How}
use Rattle.hr_event.specs.declared.entry.How.TheVariants.{Put, Unsure, Same, Kept}
use Rattle.hr_event.specs.declared.entry.What.TheVariants.{GotBlob, PutBlob, PutChild, Show}
use Rattle.hr_event.specs.declared.reference.Reference.TheVariants as by
use Rattle.hr_manifest.specs.Manifest.{Parts}
use Rattle.hr_graph.specs.Sound.{Asks, HasPassed, IsChain, IsReady}
use Rattle.hr_graph.specs.Walk.{Answers, newest_manifest}
use Rattle.hr_graph.specs.declared.need.Given.TheVariants as given
use Rattle.hr_graph.specs.declared.need.Need.{Need}
use Rattle.hr_graph.specs.declared.need.Need.TheVariants as need
use Rattle.hr_graph.specs.declared.opened.Opened.{Opened}
use Rattle.hr_graph.proofs.WalkLaws.{all_passed, comes_last, putting_is, putting_own}
use Rattle.hr_adapter.specs.Calls.{Heads, PutsManifest}
use Rattle.hr_adapter.specs.Content.{Content, blob_at, head_at, manifest_at, with_blob, with_manifest, with_tag}
use Rattle.hr_adapter.specs.Put.{Has, manifest_alone, put_under}
use Rattle.hr_adapter.specs.Reg.{Reg, changed}
use Rattle.hr_adapter.specs.declared.fault.RegFault.{RegFault}
use Rattle.hr_adapter.proofs.CallLaws.{MayBePut}
use Rattle.hr_adapter.proofs.ContentLaws.{blob_at-with_blob-same, manifest_at-with_manifest-same}
use Rattle.hr_blob.specs.Copies.{Ends, LeavesBegun, with_copy}
use Rattle.hr_blob.specs.declared.outcome.NotCopied.{NotCopied}
use Rattle.hr_blob.specs.declared.outcome.NotCopied.TheVariants as copy
use Rattle.hr_journal.specs.Graph.{StandsUnder}
use Rattle.hr_journal.specs.OneEach.{OneEach}
use Rattle.hr_journal.specs.Promise.{IsPut, Promise}
use Rattle.hr_journal.specs.Puts.{DoesAs, MaybePut, MaybePutTag, PutsTag}
use Rattle.hr_journal.specs.Says.{Placement, blob_read, child_read, last, read_under}
use Rattle.hr_journal.proofs.PromiseLaws.{blob_read_itself, each_before, last_answered, promise_shows_under}
use Rattle.hr_line.specs.Destination.{EndStands, IsReadable, WereRead, WorkStands, stored_of}
use Rattle.hr_line.specs.Line.{ChildStored, CopyEnds, CopyLine, EndsBy, LineEnd, PutLine, RootDecided, RootLine, RootLooked, RootStored, WorkGoes, decide, entry_of}
use Rattle.hr_line.specs.Step.{Line, StoreLine, WalkLine, WorkLine}
use Rattle.hr_line.specs.declared.held.Admitted.{Admitted}
use Rattle.hr_line.specs.declared.held.Work.{Work}
use Rattle.hr_line.proofs.CalmLemmas.{IsCalm, asked_told, begun_told, coming_is, copy_failed, digest_apart, digest_same, look_leaves, look_other, put_failed}
use Rattle.hr_line.proofs.DestinationLemmas.{LineStands, as_is, blob_line_stands, child_line_stands, ended, entry_grows, entry_kept, entry_work, left_stands, look_line_stands, looked_at, nothing, root_was_read, tag_stands, wrote}
use Rattle.hr_line.proofs.StandsLemmas.{AnswerStands, each_passed_stands, goes_stands}

module _ (to : Placement) (o : Content) (a : Admitted) (tag : TagName) (placed : to a.job.0 a.rev ≡ Some a.spec.to) where
  -- ---- a blob is copied

  got_does : (log : List Entry) (b : Content) (d : Digest) (bytes : ByteList) (len : ℕ) → Has d bytes → length bytes ≡ len
      → DoesAs (GotBlob d len) a.spec.to (entry_of a (GotBlob d len)) log b b
  got_does log b d bytes len own long = record { bytes = bytes; own = own; long = long; same = refl }

  blob_does : (log : List Entry) (b c : Content) (d : Digest) (bytes : ByteList) (len : ℕ) (sure : Bool) → Has d bytes
      → length bytes ≡ len → MaybePut sure b c (with_blob b a.spec.to d bytes)
      → DoesAs (PutBlob d sure) a.spec.to (entry_of a (PutBlob d sure)) (entry_of a (GotBlob d len) ∷ log) b c
  blob_does log b c d bytes len sure own long does = record {
    bytes = bytes;
    own = own;
    got = last_answered (blob_read d) (entry_of a (GotBlob d len)) log len (blob_read_itself d len) ∙ ap Some (sym long);
    does = does;
  }

  -- a blob came, and was put or maybe put
  stored_stands : (log after : List Entry) (b c : Content) (q : Reg) (end : LineEnd) (d : Digest) (bytes : ByteList) (len : ℕ) (sure : Bool)
      → q.told ≡ Some c → IsTrue q.quiet → Promise to o log b → Has d bytes → length bytes ≡ len
      → MaybePut sure b c (with_blob b a.spec.to d bytes)
      → after ≡ entry_of a (PutBlob d sure) ∷ entry_of a (GotBlob d len) ∷ log
      → EndStands to o a tag (entry_of a (PutBlob d sure) ∷ entry_of a (GotBlob d len) ∷ log) c end
      → LineStands to o a tag after b q end
  stored_stands log after b c q end d bytes len sure told quiet promise own long does writes stands =
      wrote to o a tag placed (PutBlob d sure) (entry_of a (GotBlob d len) ∷ log) after b c q end told quiet
      (entry_kept to o a tag placed (GotBlob d len) log b b promise (got_does log b d bytes len own long) tt)
      (blob_does log b c d bytes len sure own long does) tt writes stands

  -- copy a blob
  copy_line_stands : (w : Work) (d : Digest) (f g p q : Reg) (log after : List Entry) (b : Content) (end : LineEnd) → IsCalm p b
      → Promise to o log b → WorkStands to o a tag log b w → w.walk.need ≡ need.CopyBlob d → CopyLine a w d f g p q log after end
      → LineStands to o a tag after b q end
  copy_line_stands w d f g p q log after b end calm promise work is line = at line.copied line.copies.ends line.ends
    where
      goes : (bytes : ByteList) (len : ℕ) → Has d bytes → length bytes ≡ len → WorkGoes w (given.Copied len) end
          → EndStands to o a tag (entry_of a (PutBlob d true) ∷ entry_of a (GotBlob d len) ∷ log) (with_blob b a.spec.to d bytes) end
      goes bytes len own long goes_on =
          let c = with_blob b a.spec.to d bytes in
          let middle = entry_of a (GotBlob d len) ∷ log in
          let newer = entry_of a (PutBlob d true) ∷ middle in
          goes_stands to o a tag newer c w (given.Copied len) end
          (entry_work to o a tag placed (PutBlob d true) middle b c w
          (entry_kept to o a tag placed (GotBlob d len) log b b promise (got_does log b d bytes len own long) tt)
          (blob_does log b c d bytes len true own long refl) (λ t. refl) (λ k. refl)
          (entry_work to o a tag placed (GotBlob d len) log b b w promise (got_does log b d bytes len own long) (λ t. refl) (λ k. refl) work))
          (subst (λ (n : Need). Answers n (given.Copied len)) (sym is) tt)
          (λ e. let other : need.CopyBlob d ≡ need.PutManifest w.walk.root = sym is ∙ e in cc)
          (subst (λ (n : Need). AnswerStands to o a tag newer c w.walk n (given.Copied len)) (sym is)
          (ap (option_map length) (blob_at-with_blob-same b a.spec.to d bytes) ∙ ap Some long)) goes_on

      unasked : (cause : _) → q ≡ p → EndsBy cause log after end → LineStands to o a tag after b q end
      unasked cause same ends =
          nothing to o a tag placed cause log after b q end (ap (λ (x : Reg). x.told) same ∙ calm.told)
          (subst (λ (x : Reg). IsTrue x.quiet) (sym same) calm.quiet) promise ends

      left : (answer : Result ⊤ RegFault) (cause : _) → LeavesBegun p q answer → EndsBy cause log after end
          → LineStands to o a tag after b q end
      left answer cause leaves ends =
          nothing to o a tag placed cause log after b q end (begun_told p q answer b calm leaves.found) (leaves.went.quiet calm.quiet)
          promise ends

      at : (copied : Result ℕ NotCopied) → Ends a.spec.from a.spec.to d line.said f g p q copied
          → CopyEnds a w d line.said log after end copied → LineStands to o a tag after b q end
      at (Ok len) copies ends =
          stored_stands log after b (with_blob b a.spec.to d copies.bytes) q end d copies.bytes len true
          (copies.content ∙ ap (changed (with_copy a.spec.to d copies.bytes)) (coming_is p b calm)) (copies.ended.went.quiet calm.quiet)
          promise copies.own copies.all.long refl ends.0 (goes copies.bytes len copies.own copies.all.long ends.1)
      at (Err copy.Gone) copies ends = unasked _ copies.0 ends
      at (Err (copy.Unopened x)) copies ends = unasked _ copies.0 ends
      at (Err (copy.Unbegun x)) copies ends = left (Err x.fault) _ copies.0 ends
      at (Err (copy.Unread x)) copies ends = left (Ok tt) _ copies.0 ends
      at (Err (copy.Unwritten x)) copies ends = left (Ok tt) _ copies.0 ends
      at (Err (copy.TooLong len)) copies ends = left (Ok tt) _ copies.0 ends
      at (Err (copy.Differs got)) copies ends = left (Ok tt) _ copies.0 ends
      at (Err (copy.SizeDiffers got)) copies ends =
          wrote to o a tag placed (GotBlob d got) log after b b q end (begun_told {T = ⊤} p q (Ok tt) b calm copies.0.found)
          (copies.0.went.quiet calm.quiet) promise (got_does log b d copies.1.bytes got copies.1.own copies.1.all.long) tt ends.0
          (ended to o a tag placed (entry_of a (GotBlob d got) ∷ log) b _ end ends.1)
      at (Err (copy.Unsure len x)) copies ends =
          let came = copy_failed a.spec.to d copies.0.bytes p q x.fault b calm copies.0.content in
          stored_stands log after b came.0 q end d copies.0.bytes len false came.1 (copies.0.ended.went.quiet calm.quiet)
          promise copies.0.own copies.0.all.long came.2 ends.0
          (ended to o a tag placed (entry_of a (PutBlob d false) ∷ entry_of a (GotBlob d len) ∷ log) came.0 _ end ends.1)

  -- ---- a child is put

  newest_read : (log : List Entry) (newest : Opened) (below : List Opened) → below ≢ [] → WereRead a tag log (newest ∷ below)
      → last (child_read newest.digest) a.job.0 a.rev log ≡ Some (stored_of newest.manifest)
  newest_read log newest [] some read = absurd (some refl)
  newest_read log newest (p ∷ below) some read = read.0

  -- what is known of a manifest that is put below the root
  record IsLow (log : List Entry) (d : Digest) (m : Parts) : Type 0 where
    own : digest_of m.bytes ≡ d
    reads : IsReadable m
    read : last (child_read d) a.job.0 a.rev log ≡ Some (stored_of m)

  low_from : (log : List Entry) (d : Digest) (m : Parts) (newest : Opened) → newest.manifest ≡ m → newest.digest ≡ d
      → digest_of m.bytes ≡ d → IsReadable newest.manifest
      → last (child_read newest.digest) a.job.0 a.rev log ≡ Some (stored_of newest.manifest) → IsLow log d m
  low_from log d m newest same named own reads read = record {
    own = own;
    reads = subst IsReadable same reads;
    read = ap (λ (k : Digest). last (child_read k) a.job.0 a.rev log) (sym named) ∙ read
        ∙ ap (λ (x : Parts). Some (stored_of x)) same;
  }

  is_low : (log : List Entry) (b : Content) (w : Work) (d : Digest) (m : Parts) → WorkStands to o a tag log b w
      → w.walk.need ≡ need.PutManifest d → d ≢ w.walk.root → Some m ≡ newest_manifest w.walk.need w.walk.opened → IsLow log d m
  is_low log b w d m work is other puts =
      let ends = comes_last w.walk d work.sound is in
      let readable = subst (λ (os : List Opened). AllByRecursion (λ x. IsReadable x.manifest) os) ends.opened work.walk.readable in
      low_from log d m ends.newest (putting_is w.walk d m is work.sound puts) ends.named (putting_own w.walk d m is work.sound puts)
      readable.0
      (newest_read log ends.newest ends.below (λ none. other (ends.oldest.0 none))
      (subst (λ (os : List Opened). WereRead a tag log os) ends.opened work.walk.read))

  child_does : (log : List Entry) (b c : Content) (d : Digest) (m : Parts) (sure : Bool) → IsLow log d m
      → MaybePut sure b c (with_manifest b a.spec.to d (stored_of m))
      → DoesAs (PutChild d sure) a.spec.to (entry_of a (PutChild d sure)) log b c
  child_does log b c d m sure low does = record {
    stored = stored_of m;
    kids = m.children;
    own = low.own;
    reads = low.reads;
    read = low.read;
    does = does;
  }

  -- put a child under its digest
  put_line_stands : (w : Work) (d : Digest) (p q : Reg) (log after : List Entry) (b : Content) (end : LineEnd) → IsCalm p b
      → Promise to o log b → WorkStands to o a tag log b w → w.walk.need ≡ need.PutManifest d → digest_eq d w.walk.root ≡ false
      → PutLine a w d p q log after end → LineStands to o a tag after b q end
  put_line_stands w d p q log after b end calm promise work is apart line = at line.put line.puts line.stores
    where
      low : IsLow log d line.parts
      low = is_low log b w d line.parts work is (digest_apart d w.walk.root apart) (sym line.newest)

      goes : WorkGoes w given.Put end
          → EndStands to o a tag (entry_of a (PutChild d true) ∷ log) (with_manifest b a.spec.to d (stored_of line.parts)) end
      goes goes_on =
          let c = with_manifest b a.spec.to d (stored_of line.parts) in
          let newer = entry_of a (PutChild d true) ∷ log in
          goes_stands to o a tag newer c w given.Put end
          (entry_work to o a tag placed (PutChild d true) log b c w promise (child_does log b c d line.parts true low refl)
          (λ t. refl) (λ k. refl) work)
          (subst (λ (n : Need). Answers n given.Put) (sym is) tt)
          (λ e. let named : need.PutManifest d ≡ need.PutManifest w.walk.root = sym is ∙ e in
          digest_apart d w.walk.root apart (let root : d ≡ w.walk.root = cc in root))
          (subst (λ (n : Need). AnswerStands to o a tag newer c w.walk n given.Put) (sym is)
          (subst (λ (m : Option Parts). IfSome m (λ x. manifest_at c a.spec.to d ≡ Some (stored_of x)))
          (sym (ap (λ (n : Need). newest_manifest n w.walk.opened) (sym is) ∙ line.newest))
          (manifest_at-with_manifest-same b a.spec.to d (stored_of line.parts)))) goes_on

      may : (c : Content) → MayBePut a.spec.to (by.Digest d) line.parts.media line.parts.bytes b c
          → MaybePut false b c (with_manifest b a.spec.to d (stored_of line.parts))
      may c (inl same) = inl same
      may c (inr (inl alone)) = inr alone
      may c (inr (inr all)) = inr all

      at : (put : Result ⊤ RegFault) → PutsManifest a.spec.to (by.Digest d) line.parts.media line.parts.bytes p q put
          → ChildStored a w d p q log after end put → LineStands to o a tag after b q end
      at (Ok done) puts stores =
          wrote to o a tag placed (PutChild d true) log after b (with_manifest b a.spec.to d (stored_of line.parts)) q end
          (puts.content ∙ ap (changed (put_under a.spec.to (by.Digest d) line.parts.media line.parts.bytes)) (coming_is p b calm))
          (puts.left.quiet calm.quiet) promise
          (child_does log b (with_manifest b a.spec.to d (stored_of line.parts)) d line.parts true low refl) tt stores.0 (goes stores.1)
      at (Err fault) puts stores =
          let came = put_failed a.spec.to (by.Digest d) line.parts.media line.parts.bytes p q fault b calm puts.content in
          wrote to o a tag placed (PutChild d false) log after b came.0 q end came.1 (puts.left.quiet calm.quiet) promise
          (child_does log b came.0 d line.parts false low (may came.0 came.2)) tt stores.0
          (ended to o a tag placed (entry_of a (PutChild d false) ∷ log) came.0 _ end stores.1)

  -- ---- the root is put

  -- what is known of the root once it is to be put
  record IsRoot (log : List Entry) (b : Content) (w : Work) (m : Parts) : Type 0 where
    own : digest_of m.bytes ≡ w.walk.root
    reads : IsReadable m
    read : last (read_under tag) a.job.0 a.rev log ≡ Some (stored_of m)
    each : OneEach to o log → AllByRecursion (λ kid. StandsUnder 8 b a.spec.to kid.kind kid.digest kid.size) m.children

  root_from : (log : List Entry) (b : Content) (w : Work) (m : Parts) (newest : Opened) → WorkStands to o a tag log b w
      → newest.manifest ≡ m → w.walk.opened ≡ newest ∷ [] → newest.next ≡ length newest.manifest.children
      → IsRoot log b w m
  root_from log b w m newest work same alone ready =
      let chain = subst (λ (os : List Opened). IsChain w.walk.root os) alone work.sound.steady.chain in
      let passed = subst (λ (os : List Opened). AllByRecursion (HasPassed w.walk.blobs w.walk.manifests) os) alone work.sound.steady.passed in
      let readable = subst (λ (os : List Opened). AllByRecursion (λ x. IsReadable x.manifest) os) alone work.walk.readable in
      let read = subst (λ (os : List Opened). WereRead a tag log os) alone work.walk.read in
      record {
        own = ap (λ (x : Parts). digest_of x.bytes) (sym same) ∙ chain.0.digest ∙ chain.0.over.0;
        reads = subst IsReadable same readable.0;
        read = read ∙ ap (λ (x : Parts). Some (stored_of x)) same;
        each = λ one.
            subst (λ (x : Parts). AllByRecursion (λ kid. StandsUnder 8 b a.spec.to kid.kind kid.digest kid.size) x.children) same
            (each_passed_stands b a.spec.to w.walk newest.level chain.0.over.1 (work.walk.standing one) newest.manifest.children
            (all_passed w.walk.blobs w.walk.manifests newest passed.0 ready));
      }

  is_root : (log : List Entry) (b : Content) (w : Work) (d : Digest) (m : Parts) → WorkStands to o a tag log b w
      → w.walk.need ≡ need.PutManifest d → d ≡ w.walk.root → Some m ≡ newest_manifest w.walk.need w.walk.opened → IsRoot log b w m
  is_root log b w d m work is root puts =
      let ends = comes_last w.walk d work.sound is in
      let alone : w.walk.opened ≡ ends.newest ∷ [] = ends.opened ∙ ap (λ (os : List Opened). ends.newest ∷ os) (ends.oldest.1 root) in
      let ready : IsReady d (ends.newest ∷ []) = subst (λ (os : List Opened). IsReady d os) alone
      (subst (λ (n : Need). Asks w.walk.blobs w.walk.manifests n w.walk.opened) is work.sound.asks) in
      root_from log b w m ends.newest work (putting_is w.walk d m is work.sound puts) alone ready.1

  abbrev root_does : (log : List Entry) (b c : Content) (w : Work) (m : Parts) (old : Option Digest) (how : How) → IsRoot log b w m
      → old ≡ head_at b a.spec.to (by.Tag tag) → old ≢ Some w.walk.root
      → MaybePutTag how b c (with_manifest b a.spec.to w.walk.root (stored_of m))
      (with_tag (with_manifest b a.spec.to w.walk.root (stored_of m)) a.spec.to tag w.walk.root)
      → PutsTag a.spec.to (entry_of a (Show tag w.walk.root old how)) tag w.walk.root old how log b c
  root_does log b c w m old how root looked other does = record {
    stored = stored_of m;
    kids = m.children;
    own = root.own;
    reads = root.reads;
    read = root.read;
    looked = looked;
    other = other;
    does = does;
  }

  shown_does : (log : List Entry) (b c : Content) (d : Digest) (old : Option Digest) (how : How) → IsPut how
      → PutsTag a.spec.to (entry_of a (Show tag d old how)) tag d old how log b c
      → DoesAs (Show tag d old how) a.spec.to (entry_of a (Show tag d old how)) log b c
  shown_does log b c d old Put put shows = shows
  shown_does log b c d old Unsure put shows = shows
  shown_does log b c d old Same put shows = elim put [ inl is ↦ cc | inr is ↦ cc ]
  shown_does log b c d old Kept put shows = elim put [ inl is ↦ cc | inr is ↦ cc ]

  -- the root was put, or may have been
  shown_stands : (log after : List Entry) (b c : Content) (q : Reg) (end : LineEnd) (w : Work) (m : Parts) (old : Option Digest) (how : How)
      → q.told ≡ Some c → IsTrue q.quiet → Promise to o log b → IsRoot log b w m
      → old ≡ head_at b a.spec.to (by.Tag tag) → old ≢ Some w.walk.root → IsPut how
      → MaybePutTag how b c (with_manifest b a.spec.to w.walk.root (stored_of m))
      (with_tag (with_manifest b a.spec.to w.walk.root (stored_of m)) a.spec.to tag w.walk.root)
      → after ≡ entry_of a (Show tag w.walk.root old how) ∷ log
      → EndStands to o a tag (entry_of a (Show tag w.walk.root old how) ∷ log) c end
      → LineStands to o a tag after b q end
  shown_stands log after b c q end w m old how told quiet promise root looked other put does writes stands =
      let e = entry_of a (Show tag w.walk.root old how) in
      let shows = root_does log b c w m old how root looked other does in
      as_is to o a tag placed after (e ∷ log) b q end end writes refl (record {
        content = c;
        told = told;
        quiet = quiet;
        promise = promise_shows_under to a.spec.to o e log b c tag w.walk.root old how promise placed refl put shows
            (λ each. root.each (each_before to o e log each));
        grows = entry_grows to o a tag placed (Show tag w.walk.root old how) log b c promise
            (shown_does log b c w.walk.root old how put shows);
        stands = stands;
      })

  -- put the root under its tag
  root_line_stands : (w : Work) (d : Digest) (p q : Reg) (log after : List Entry) (b : Content) (end : LineEnd) → IsCalm p b
      → Promise to o log b → WorkStands to o a tag log b w → w.walk.need ≡ need.PutManifest d → digest_eq d w.walk.root ≡ true
      → RootLine a tag w p q log after end → LineStands to o a tag after b q end
  root_line_stands w d p q log after b end calm promise work is same line = at line.found line.asks line.finds
    where
      calm_after : (found : Result (Option Digest) RegFault) → Heads a.spec.to (by.Tag tag) p line.mid found → IsCalm line.mid b
      calm_after found asks = record {
        sound = line.sound;
        quiet = asks.asks.left.quiet calm.quiet;
        told = asked_told p line.mid found b calm asks.asks;
      }

      alone_is : (m : Parts) → digest_of m.bytes ≡ w.walk.root
          → manifest_alone a.spec.to (by.Tag tag) m.media m.bytes b ≡ with_manifest b a.spec.to w.walk.root (stored_of m)
      alone_is m own = ap (λ (k : Digest). with_manifest b a.spec.to k (stored_of m)) own

      shown_is : (m : Parts) → digest_of m.bytes ≡ w.walk.root
          → put_under a.spec.to (by.Tag tag) m.media m.bytes b
          ≡ with_tag (with_manifest b a.spec.to w.walk.root (stored_of m)) a.spec.to tag w.walk.root
      shown_is m own = ap (λ (k : Digest). with_tag (with_manifest b a.spec.to k (stored_of m)) a.spec.to tag k) own

      may : (m : Parts) (c : Content) → digest_of m.bytes ≡ w.walk.root → MayBePut a.spec.to (by.Tag tag) m.media m.bytes b c
          → MaybePutTag Unsure b c (with_manifest b a.spec.to w.walk.root (stored_of m))
          (with_tag (with_manifest b a.spec.to w.walk.root (stored_of m)) a.spec.to tag w.walk.root)
      may m c own (inl e) = inl e
      may m c own (inr (inl e)) = inr (inl (e ∙ alone_is m own))
      may m c own (inr (inr e)) = inr (inr (e ∙ shown_is m own))

      stored : (found : Option Digest) (m : Parts) → IsCalm line.mid b → IsRoot log b w m → found ≡ head_at b a.spec.to (by.Tag tag)
          → found ≢ Some w.walk.root → (put : Result ⊤ RegFault)
          → PutsManifest a.spec.to (by.Tag tag) m.media m.bytes line.mid q put
          → RootStored a tag w.walk.root found line.mid q log after end put → LineStands to o a tag after b q end
      stored found m now root looked other (Ok done) puts stores =
          let c = put_under a.spec.to (by.Tag tag) m.media m.bytes b in
          shown_stands log after b c q end w m found Put
          (puts.content ∙ ap (changed (put_under a.spec.to (by.Tag tag) m.media m.bytes)) (coming_is line.mid b now))
          (puts.left.quiet now.quiet) promise root looked other (inl refl) (shown_is m root.own) stores.0
          (subst (λ (e : LineEnd). EndStands to o a tag (entry_of a (Show tag w.walk.root found Put) ∷ log) c e) (sym stores.1) tt)
      stored found m now root looked other (Err fault) puts stores =
          let came = put_failed a.spec.to (by.Tag tag) m.media m.bytes line.mid q fault b now puts.content in
          shown_stands log after b came.0 q end w m found Unsure came.1 (puts.left.quiet now.quiet) promise root looked other (inr refl)
          (may m came.0 root.own came.2) stores.0
          (ended to o a tag placed (entry_of a (Show tag w.walk.root found Unsure) ∷ log) came.0 _ end stores.1)

      decided : (found : Option Digest) → Heads a.spec.to (by.Tag tag) p line.mid (Ok found) → (how : Option How)
          → decide found w.walk.root a.spec.override_it ≡ how → RootDecided a tag w found line.mid q log after end how
          → LineStands to o a tag after b q end
      decided found asks None decides puts =
          stored found puts.parts (calm_after (Ok found) asks)
          (is_root log b w d puts.parts work is (digest_same d w.walk.root same) (sym puts.newest))
          (looked_at to o a tag placed p line.mid found b calm asks) (look_other found w.walk.root a.spec.override_it decides)
          puts.put puts.puts puts.stores
      decided found asks (Some how) decides ends =
          let now = calm_after (Ok found) asks in
          left_stands to o a tag placed log after b q end w.walk.root found how
          (ap (λ (x : Reg). x.told) ends.0 ∙ now.told) (subst (λ (x : Reg). IsTrue x.quiet) (sym ends.0) now.quiet) promise
          (root_was_read to o a tag placed log b w work) (looked_at to o a tag placed p line.mid found b calm asks)
          (look_leaves found w.walk.root a.spec.override_it how decides) ends.1 ends.2

      at : (found : Result (Option Digest) RegFault) → Heads a.spec.to (by.Tag tag) p line.mid found
          → RootLooked a tag w p line.mid q log after end found → LineStands to o a tag after b q end
      at (Err fault) asks ends =
          let now = calm_after (Err fault) asks in
          nothing to o a tag placed _ log after b q end (ap (λ (x : Reg). x.told) ends.0 ∙ now.told)
          (subst (λ (x : Reg). IsTrue x.quiet) (sym ends.0) now.quiet) promise ends.1
      at (Ok found) asks finds = decided found asks (decide found w.walk.root a.spec.override_it) refl finds

  -- ---- each line

  same_dest : (after : List Entry) (b : Content) (p q : Reg) (end : LineEnd) → q ≡ p → LineStands to o a tag after b p end
      → LineStands to o a tag after b q end
  same_dest after b p q end same stands = subst (λ (x : Reg). LineStands to o a tag after b x end) (sym same) stands

  store_line : (w : Work) (d : Digest) (p q : Reg) (log after : List Entry) (b : Content) (end : LineEnd) → IsCalm p b
      → Promise to o log b → WorkStands to o a tag log b w → w.walk.need ≡ need.PutManifest d → (root : Bool)
      → digest_eq d w.walk.root ≡ root → StoreLine root a tag w d p q log after end → LineStands to o a tag after b q end
  store_line w d p q log after b end calm promise work is true same line =
      root_line_stands w d p q log after b end calm promise work is same line
  store_line w d p q log after b end calm promise work is false other line =
      put_line_stands w d p q log after b end calm promise work is other line

  walk_line : (w : Work) (f g p q : Reg) (log after : List Entry) (b : Content) (end : LineEnd) → IsCalm p b → Promise to o log b
      → WorkStands to o a tag log b w → (x : Need) → w.walk.need ≡ x → WalkLine x a tag w f g p q log after end
      → LineStands to o a tag after b q end
  walk_line w f g p q log after b end calm promise work (need.Manifest d) is line =
      same_dest after b p q end line.0
      (child_line_stands to o a tag placed w d f g p log after b end calm promise work is line.1)
  walk_line w f g p q log after b end calm promise work (need.HasBlob d) is line =
      blob_line_stands to o a tag placed w d p q log after b end calm promise work is line.1
  walk_line w f g p q log after b end calm promise work (need.CopyBlob d) is line =
      copy_line_stands w d f g p q log after b end calm promise work is line
  walk_line w f g p q log after b end calm promise work (need.PutManifest d) is line =
      store_line w d p q log after b end calm promise work is (digest_eq d w.walk.root) refl line.1
  walk_line w f g p q log after b end calm promise work need.Done is line = absurd line

  work_line : (w : Work) (f g p q : Reg) (log after : List Entry) (b : Content) (end : LineEnd) → IsCalm p b → Promise to o log b
      → WorkStands to o a tag log b w → (looked : Bool) → WorkLine looked a tag w f g p q log after end
      → LineStands to o a tag after b q end
  work_line w f g p q log after b end calm promise work true line =
      walk_line w f g p q log after b end calm promise work w.walk.need refl line
  work_line w f g p q log after b end calm promise work false line =
      look_line_stands to o a tag placed w p q log after b end calm promise work line.1

  -- each line keeps the promise, loses nothing, and leaves the work that goes on standing
  pub line_stands : (work : Option Work) (f g p q : Reg) (log after : List Entry) (b : Content) (end : LineEnd) → IsCalm p b
      → Promise to o log b → IfSome work (WorkStands to o a tag log b) → Line a tag work f g p q log after end
      → LineStands to o a tag after b q end
  line_stands None f g p q log after b end calm promise work line =
      same_dest after b p q end line.0 (tag_stands to o a tag placed f g p log after b end calm promise line.1)
  line_stands (Some w) f g p q log after b end calm promise work line =
      work_line w f g p q log after b end calm promise work w.looked line
