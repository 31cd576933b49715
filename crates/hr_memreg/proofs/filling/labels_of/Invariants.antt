use Rattle.std.proofs.Common.{◌≡◌, [], map}
use Rattle.std.specs.Cmp.Lexicographic.{slice_cmp}
use Rattle.std.specs.Ordering.{nat_cmp}
use Rattle.std.specs.Vec.Iter.{into_iter_items}
use Rattle.hr_memreg.specs.Listed.{put_all, labels_entry}
use Rattle.hr_memreg.proofs.filling.labels_of.Given as goal

abbrev pub invariant-loop-tagged : goal.invariant-loop-tagged
invariant-loop-tagged l =
    put_all (slice_cmp nat_cmp) l.kept.entries (map labels_entry (into_iter_items l.tagged-iterator)) ≡ put_all
    (slice_cmp nat_cmp) [] (map labels_entry l.fn.tags)
