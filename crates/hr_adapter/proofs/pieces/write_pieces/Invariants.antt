use Rattle.std.proofs.Common.{◌-◌, ◌≤◌, length, take}
use Rattle.hr_adapter.specs.Pieces.{HasWritten}
use Rattle.hr_adapter.proofs.pieces.write_pieces.Given as goal

-- the bytes before the place were written
abbrev pub invariant-pieces : goal.invariant-pieces
invariant-pieces g l = record {
  within : l.at ≤ length l.bytes;
  so_far : HasWritten (take l.at l.bytes) (g.R.Registry.seen l.registry).writing;
}

abbrev pub decreases-pieces : goal.decreases-pieces
decreases-pieces g l = length l.initial.bytes - l.at
