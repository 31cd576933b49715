-- Each line, whatever the work needs, has evidence for its end.
use Rattle.std.proofs.Common.{◌≡◌, refl, Bool, true, false, List}
use Rattle.std.specs.Prelude.{Option, Some, None, IfSome, Contains}
use Rattle.hr_digest.specs.Order.{digest_eq}
use Rattle.hr_digest.specs.declared.digest.Digest.{Digest}
use Rattle.hr_name.specs.Tag.{TagName}
use Rattle.hr_event.specs.declared.entry.Entry.{Entry}
use Rattle.hr_graph.specs.declared.need.Need.{Need}
use Rattle.hr_graph.specs.declared.need.Need.TheVariants as need
use Rattle.hr_adapter.specs.Reg.{IsSound, Reg}
use Rattle.hr_line.specs.Kept.{EndSeen, WorkSeen}
use Rattle.hr_line.specs.Line.{LineEnd}
use Rattle.hr_line.specs.Step.{Line, StoreLine, WalkLine, WorkLine}
use Rattle.hr_line.specs.declared.held.Admitted.{Admitted}
use Rattle.hr_line.specs.declared.held.Work.{Work}
use Rattle.hr_line.proofs.ChildLemmas.{blob_seen, child_seen, copy_seen, look_seen, put_seen, root_seen}
use Rattle.hr_line.proofs.LineLemmas.{tag_seen}

store_seen : (a : Admitted) (tag : TagName) (w : Work) (d : Digest) (g p q : Reg) (log after : List Entry) (end : LineEnd)
    → WorkSeen a log w → w.walk.need ≡ need.PutManifest d → (root : Bool) → StoreLine root a tag w d p q log after end
    → EndSeen a after g q end
store_seen a tag w d g p q log after end seen is true line = root_seen a tag w d g p q log after end seen is line
store_seen a tag w d g p q log after end seen is false line = put_seen a w d g p q log after end seen is line

abbrev at_source : Admitted → List Entry → Reg → LineEnd → Reg → Type 0
at_source a after q end g = EndSeen a after g q end

walk_seen : (a : Admitted) (tag : TagName) (w : Work) (f g p q : Reg) (log after : List Entry) (end : LineEnd) → WorkSeen a log w
    → (need : Need) → w.walk.need ≡ need → WalkLine need a tag w f g p q log after end → EndSeen a after g q end
walk_seen a tag w f g p q log after end seen (need.Manifest d) is line = child_seen a w d f g q log after end seen is line.1
walk_seen a tag w f g p q log after end seen (need.HasBlob d) is line = blob_seen a w d g p q log after end seen is line.1
walk_seen a tag w f g p q log after end seen (need.CopyBlob d) is line = copy_seen a w d f g p q log after end seen is line
walk_seen a tag w f g p q log after end seen (need.PutManifest d) is line =
    store_seen a tag w d g p q log after end seen is (digest_eq d w.walk.root) line.1
walk_seen a tag w f g p q log after end seen need.Done is line = absurd line

work_seen : (a : Admitted) (tag : TagName) (w : Work) (f g p q : Reg) (log after : List Entry) (end : LineEnd) → WorkSeen a log w
    → (looked : Bool) → WorkLine looked a tag w f g p q log after end → EndSeen a after g q end
work_seen a tag w f g p q log after end seen true line = walk_seen a tag w f g p q log after end seen w.walk.need refl line
work_seen a tag w f g p q log after end seen false line = look_seen a tag w g p q log after end seen line.1

-- each line has evidence for its end, where the work had it before
pub line_seen : (a : Admitted) (tag : TagName) (work : Option Work) (f g p q : Reg) (log after : List Entry) (end : LineEnd)
    → Contains a.spec.tags tag → IsSound g → IfSome work (WorkSeen a log) → Line a tag work f g p q log after end
    → EndSeen a after g q end
line_seen a tag None f g p q log after end named sound seen line = tag_seen a tag f g q log after end named sound line.1
line_seen a tag (Some w) f g p q log after end named sound seen line =
    work_seen a tag w f g p q log after end seen w.looked line
