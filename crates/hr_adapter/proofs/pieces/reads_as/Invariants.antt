use Rattle.std.proofs.Common.{◌-◌, ◌≤◌, length}
use Rattle.std.specs.Prelude.{IsSome}
use Rattle.hr_adapter.proofs.pieces.reads_as.Given as goal

-- no more was read than is wanted, and there may be more to read
abbrev pub invariant-pieces : goal.invariant-pieces
invariant-pieces g l = record {
  within : l.at ≤ length l.wanted;
  readable : IsSome (g.R.Registry.seen l.registry).reading;
}

abbrev pub decreases-pieces : goal.decreases-pieces
decreases-pieces g l = length l.wanted - l.at
