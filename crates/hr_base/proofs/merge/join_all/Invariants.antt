use Rattle.std.proofs.Common.{◌≡◌, take}
use Rattle.hr_base.specs.Merge.{joined}
use Rattle.hr_base.proofs.merge.join_all.Given as goal

abbrev pub invariant-loop-hook : goal.invariant-loop-hook
invariant-loop-hook l = l.known ≡ joined (take l.hook-index l.hooks)
