-- The marks with that one are the same, and there is room for it.
use Rattle.std.proofs.Common.{◌≡◌, ◌<◌, ◌-◌, suc, length}
use Rattle.std.specs.Vec.{vec_capacity}
use Rattle.hr_run.specs.State.{with_mark}
use Rattle.hr_core.proofs.marks.set_mark.Given as goal

abbrev pub invariant-missing : goal.invariant-missing
invariant-missing l = record {
  same : with_mark l.marks.items l.place ≡ with_mark l.initial.marks.items l.place;
  room : l.place < vec_capacity l.marks;
}

abbrev pub decreases-missing : goal.decreases-missing
decreases-missing l = suc l.place - length l.marks.items
