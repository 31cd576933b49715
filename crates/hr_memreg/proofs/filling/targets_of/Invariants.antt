use Rattle.std.proofs.Common.{◌≡◌, [], map, drop}
use Rattle.std.specs.Cmp.Lexicographic.{slice_cmp}
use Rattle.std.specs.Ordering.{nat_cmp}
use Rattle.hr_memreg.specs.Listed.{put_all, target_entry}
use Rattle.hr_memreg.proofs.filling.targets_of.Given as goal

abbrev pub invariant-loop-tagged : goal.invariant-loop-tagged
invariant-loop-tagged l =
    put_all (slice_cmp nat_cmp) l.kept.entries (map target_entry (drop l.tagged-index l.tags)) ≡ put_all (slice_cmp
    nat_cmp) [] (map target_entry l.tags)
