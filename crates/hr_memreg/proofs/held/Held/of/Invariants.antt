use Rattle.std.proofs.Common.{◌≡◌, [], map}
use Rattle.std.specs.Cmp.Lexicographic.{slice_cmp}
use Rattle.std.specs.Ordering.{nat_cmp}
use Rattle.std.specs.Vec.Iter.{into_iter_items}
use Rattle.hr_memreg.specs.Listed.{put_all, repo_entry}
use Rattle.hr_memreg.proofs.held.Held.of.Given as goal

abbrev pub invariant-loop-repo : goal.invariant-loop-repo
invariant-loop-repo l =
    put_all (slice_cmp nat_cmp) l.repos.entries (map repo_entry (into_iter_items l.repo-iterator))
    ≡ put_all (slice_cmp nat_cmp) [] (map repo_entry l.fn.content.repos)
