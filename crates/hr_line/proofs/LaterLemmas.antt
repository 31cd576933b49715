-- Each line leaves its source and its destination as they were, later on: counts of faults don't
-- fall, and who told tells.
use Rattle.std.proofs.Common.{◌≡◌, inl, inr, refl, sym, ap, subst, ◌∙◌, ℕ, ◌≤◌, Bool, true, false, List, arith}
use Rattle.std.specs.Prelude.{Option, Some, None, Result, Ok, Err, is_some, option_map, ⊤}
use Rattle.hr_base.specs.Bytes.{ByteList, Media}
use Rattle.hr_digest.specs.Order.{digest_eq}
use Rattle.hr_digest.specs.declared.digest.Digest.{Digest}
use Rattle.hr_name.specs.Name.{RepoName}
use Rattle.hr_name.specs.Tag.{TagName}
use Rattle.hr_event.specs.declared.entry.Entry.{Entry}
use Rattle.hr_event.specs.declared.entry.How.{How}
use Rattle.hr_event.specs.declared.reference.Reference.{Reference}
use Rattle.hr_event.specs.declared.reference.Reference.TheVariants as by
use Rattle.hr_graph.specs.declared.need.Need.{Need}
use Rattle.hr_graph.specs.declared.need.Need.TheVariants as need
use Rattle.hr_adapter.specs.Calls.{Asks, MayHold, MayStand, PutsManifest, StandsAfter}
use Rattle.hr_adapter.specs.Content.{Content}
use Rattle.hr_adapter.specs.Plan.{lands_next}
use Rattle.hr_adapter.specs.Put.{manifest_alone, put_under}
use Rattle.hr_adapter.specs.Reg.{BothOrNeither, IsSound, Reg, Retagged, changed}
use Rattle.hr_adapter.specs.declared.fault.RegFault.{RegFault}
use Rattle.hr_adapter.specs.declared.fault.RegFault.TheVariants as why
use Rattle.hr_adapter.proofs.CallLaws.{Moved-asks, Moved-found}
use Rattle.hr_blob.specs.Copies.{Ends, HoldsCopy, LeavesBegun, with_copy}
use Rattle.hr_blob.specs.declared.outcome.NotCopied.{NotCopied}
use Rattle.hr_blob.specs.declared.outcome.NotCopied.TheVariants as copy
use Rattle.hr_line.specs.Line.{LineEnd, RootDecided, RootLooked, decide}
use Rattle.hr_line.specs.Step.{Line, StoreLine, WalkLine, WorkLine}
use Rattle.hr_line.specs.declared.held.Admitted.{Admitted}
use Rattle.hr_line.specs.declared.held.Work.{Work}
use Rattle.hr_line.proofs.ShownLemmas.{IsLaterDest, IsLaterSource}
use Rattle.hr_line.proofs.SourceLemmas.{line_read}

-- ---- who told tells

both_tell : (o p : Option Content) → BothOrNeither Retagged o p → is_some p ≡ is_some o
both_tell (Some c) (Some d) moved = refl
both_tell None None moved = refl
both_tell (Some c) None moved = absurd moved
both_tell None (Some d) moved = absurd moved

changed_tells : (change : Content → Content) (o : Option Content) → is_some (changed change o) ≡ is_some o
changed_tells change (Some c) = refl
changed_tells change None = refl

coming_tells : (p : Reg) → IsSound p → is_some p.coming ≡ is_some p.told
coming_tells p sound = both_tell p.told p.coming sound.changes

stands_tells : (planned : Option Bool) (repo : RepoName) (reference : Reference) (media : Media) (bytes : ByteList) (o p : Option Content)
    → MayStand planned repo reference media bytes o p → is_some p ≡ is_some o
stands_tells (Some true) repo reference media bytes o p is = ap is_some is ∙ changed_tells (put_under repo reference media bytes) o
stands_tells (Some false) repo reference media bytes o p is = ap is_some is
stands_tells None repo reference media bytes o p (inl is) = ap is_some is
stands_tells None repo reference media bytes o p (inr (inl is)) = ap is_some is ∙ changed_tells (manifest_alone repo reference media bytes) o
stands_tells None repo reference media bytes o p (inr (inr is)) = ap is_some is ∙ changed_tells (put_under repo reference media bytes) o

after_tells : (repo : RepoName) (reference : Reference) (media : Media) (bytes : ByteList) (p q : Reg) (put : Result ⊤ RegFault) → IsSound p
    → StandsAfter repo reference media bytes p q put → is_some q.told ≡ is_some p.told
after_tells repo reference media bytes p q (Ok done) sound is =
    ap is_some is ∙ changed_tells (put_under repo reference media bytes) p.coming ∙ coming_tells p sound
after_tells repo reference media bytes p q (Err why.Failed) sound stands =
    stands_tells (option_map lands_next p.plan) repo reference media bytes p.coming q.told stands ∙ coming_tells p sound
after_tells repo reference media bytes p q (Err (why.TooLong len)) sound is = ap is_some is ∙ coming_tells p sound
after_tells repo reference media bytes p q (Err why.Memory) sound (inl moved) = both_tell p.told q.told moved.told
after_tells repo reference media bytes p q (Err why.Memory) sound (inr stands) =
    stands_tells None repo reference media bytes p.coming q.told stands ∙ coming_tells p sound

holds_tells : (planned : Option Bool) (put : Content → Content) (o p : Option Content) → MayHold planned put o p → is_some p ≡ is_some o
holds_tells (Some true) put o p is = ap is_some is ∙ changed_tells put o
holds_tells (Some false) put o p is = ap is_some is
holds_tells None put o p (inl is) = ap is_some is
holds_tells None put o p (inr is) = ap is_some is ∙ changed_tells put o

copy_tells : (to : RepoName) (d : Digest) (bytes : ByteList) (p q : Reg) (answer : Result ⊤ RegFault) → IsSound p
    → HoldsCopy to d bytes p q answer → is_some q.told ≡ is_some p.told
copy_tells to d bytes p q (Ok done) sound is = ap is_some is ∙ changed_tells (with_copy to d bytes) p.coming ∙ coming_tells p sound
copy_tells to d bytes p q (Err why.Failed) sound holds =
    holds_tells (option_map lands_next p.plan) (with_copy to d bytes) p.coming q.told holds ∙ coming_tells p sound
copy_tells to d bytes p q (Err (why.TooLong len)) sound holds =
    holds_tells None (with_copy to d bytes) p.coming q.told holds ∙ coming_tells p sound
copy_tells to d bytes p q (Err why.Memory) sound holds =
    holds_tells None (with_copy to d bytes) p.coming q.told holds ∙ coming_tells p sound

-- ---- destinations

pub dest_itself : (p q : Reg) → q ≡ p → IsLaterDest p q
dest_itself p q same = subst (λ (x : Reg). IsLaterDest p x) (sym same) (record { tells = refl; faults = omega arith })

dest_then : (p m q : Reg) → IsLaterDest p m → IsLaterDest m q → IsLaterDest p q
dest_then p m q first next = record {
  tells = next.tells ∙ first.tells;
  faults = let one = first.faults in let two = next.faults in omega (arith, one, two);
}

asked_dest : {T : Type 0} (p q : Reg) (result : Result T RegFault) → IsSound p → Asks p q result → IsLaterDest p q
asked_dest p q result sound asks = record {
  tells = both_tell p.told q.told (Moved-asks p q result sound asks).told;
  faults = asks.left.later;
}

put_dest : (repo : RepoName) (reference : Reference) (media : Media) (bytes : ByteList) (p q : Reg) (put : Result ⊤ RegFault) → IsSound p
    → PutsManifest repo reference media bytes p q put → IsLaterDest p q
put_dest repo reference media bytes p q put sound puts = record {
  tells = after_tells repo reference media bytes p q put sound puts.content;
  faults = puts.left.later;
}

begun_dest : (p q : Reg) (answer : Result ⊤ RegFault) → IsSound p → LeavesBegun p q answer → IsLaterDest p q
begun_dest p q answer sound leaves = record {
  tells = both_tell p.told q.told (Moved-found p q answer sound leaves.found).told;
  faults = leaves.went.later;
}

copied_dest : (from to : RepoName) (d : Digest) (said : ℕ) (f g p q : Reg) (copied : Result ℕ NotCopied) → IsSound p
    → Ends from to d said f g p q copied → IsLaterDest p q
copied_dest from to d said f g p q (Ok len) sound ends =
    record { tells = copy_tells to d ends.bytes p q (Ok tt) sound ends.content; faults = ends.ended.went.later }
copied_dest from to d said f g p q (Err copy.Gone) sound ends = dest_itself p q ends.0
copied_dest from to d said f g p q (Err (copy.Unopened x)) sound ends = dest_itself p q ends.0
copied_dest from to d said f g p q (Err (copy.Unbegun x)) sound ends = begun_dest p q (Err x.fault) sound ends.0
copied_dest from to d said f g p q (Err (copy.Unread x)) sound ends = begun_dest p q (Ok tt) sound ends.0
copied_dest from to d said f g p q (Err (copy.Unwritten x)) sound ends = begun_dest p q (Ok tt) sound ends.0
copied_dest from to d said f g p q (Err (copy.TooLong len)) sound ends = begun_dest p q (Ok tt) sound ends.0
copied_dest from to d said f g p q (Err (copy.Differs got)) sound ends = begun_dest p q (Ok tt) sound ends.0
copied_dest from to d said f g p q (Err (copy.SizeDiffers got)) sound ends = begun_dest p q (Ok tt) sound ends.0
copied_dest from to d said f g p q (Err (copy.Unsure len x)) sound ends =
    record { tells = copy_tells to d ends.0.bytes p q (Err x.fault) sound ends.0.content; faults = ends.0.ended.went.later }

module _ (a : Admitted) (tag : TagName) (f g p q : Reg) (log after : List Entry) (end : LineEnd) (sound : IsSound p) where
  decided_dest : (w : Work) (found : Option Digest) (mid : Reg) (how : Option How) → IsSound mid
      → RootDecided a tag w found mid q log after end how → IsLaterDest mid q
  decided_dest w found mid None now puts =
      put_dest a.spec.to (by.Tag tag) puts.parts.media puts.parts.bytes mid q puts.put now puts.puts
  decided_dest w found mid (Some how) now ends = dest_itself mid q ends.0

  looked_dest : (w : Work) (mid : Reg) (found : Result (Option Digest) RegFault) → IsSound mid
      → RootLooked a tag w p mid q log after end found → IsLaterDest mid q
  looked_dest w mid (Ok found) now finds = decided_dest w found mid (decide found w.walk.root a.spec.override_it) now finds
  looked_dest w mid (Err fault) now ends = dest_itself mid q ends.0

  store_dest : (w : Work) (d : Digest) (root : Bool) → StoreLine root a tag w d p q log after end → IsLaterDest p q
  store_dest w d true line =
      dest_then p line.mid q (asked_dest p line.mid line.found sound line.asks.asks) (looked_dest w line.mid line.found line.sound line.finds)
  store_dest w d false line = put_dest a.spec.to (by.Digest d) line.parts.media line.parts.bytes p q line.put sound line.puts

  walk_dest : (w : Work) (x : Need) → WalkLine x a tag w f g p q log after end → IsLaterDest p q
  walk_dest w (need.Manifest d) line = dest_itself p q line.0
  walk_dest w (need.HasBlob d) line = asked_dest p q line.1.found sound line.1.asks.asks
  walk_dest w (need.CopyBlob d) line = copied_dest a.spec.from a.spec.to d line.said f g p q line.copied sound line.copies.ends
  walk_dest w (need.PutManifest d) line = store_dest w d (digest_eq d w.walk.root) line.1
  walk_dest w need.Done line = absurd line

  work_dest : (w : Work) (looked : Bool) → WorkLine looked a tag w f g p q log after end → IsLaterDest p q
  work_dest w true line = walk_dest w w.walk.need line
  work_dest w false line = asked_dest p q line.1.found sound line.1.asks.asks

  -- a line leaves its destination so
  pub line_dest : (work : Option Work) → Line a tag work f g p q log after end → IsLaterDest p q
  line_dest None line = dest_itself p q line.0
  line_dest (Some w) line = work_dest w w.looked line

-- ---- sources

same_faults : (f g : Reg) → g ≡ f → f.faults ≤ g.faults
same_faults f g same = subst (λ (x : Reg). f.faults ≤ x.faults) (sym same) (omega arith)

module _ (a : Admitted) (tag : TagName) (f g p q : Reg) (log after : List Entry) (end : LineEnd) where
  walk_faults : (w : Work) (x : Need) → WalkLine x a tag w f g p q log after end → f.faults ≤ g.faults
  walk_faults w (need.Manifest d) line = line.1.asks.asks.left.later
  walk_faults w (need.HasBlob d) line = same_faults f g line.0
  walk_faults w (need.CopyBlob d) line = line.copies.source.went.later
  walk_faults w (need.PutManifest d) line = same_faults f g line.0
  walk_faults w need.Done line = absurd line

  work_faults : (w : Work) (looked : Bool) → WorkLine looked a tag w f g p q log after end → f.faults ≤ g.faults
  work_faults w true line = walk_faults w w.walk.need line
  work_faults w false line = same_faults f g line.0

  line_faults : (work : Option Work) → Line a tag work f g p q log after end → f.faults ≤ g.faults
  line_faults None line = line.1.asks.asks.left.later
  line_faults (Some w) line = work_faults w w.looked line

  -- a line leaves its source so
  pub line_source : (work : Option Work) → IsSound f → Line a tag work f g p q log after end → IsLaterSource f g
  line_source work sound line = record {
    read = line_read a tag work f g p q log after end sound line;
    faults = line_faults work line;
  }
