-- The files that were put so far, with those that are left, are all.
use Rattle.std.proofs.Common.{◌≡◌, []}
use Rattle.std.specs.Vec.Iter.{into_iter_items}
use Rattle.hr_tree.specs.Tree.{files_of}
use Rattle.hr_tree.proofs.mem_tree.by_path.Given as goal

abbrev pub invariant-loop-path : goal.invariant-loop-path
invariant-loop-path l = files_of l.kept.entries (into_iter_items l.path-iterator) ≡ files_of [] l.fn.files
