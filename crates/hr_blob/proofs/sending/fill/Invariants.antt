-- What was read so far stands at the front of the buffer.
use Rattle.std.proofs.Common.{◌≤◌, ◌-◌, length, take}
use Rattle.hr_blob.specs.Pieces.{GavePieces}
use Rattle.hr_blob.proofs.sending.fill.Given as goal

abbrev pub invariant-reads : goal.invariant-reads
invariant-reads g l = record {
  within : l.at ≤ length l.buf;
  gave : GavePieces (take l.at l.buf) (g.S.Registry.seen l.fn.source) (g.S.Registry.seen l.source);
}

abbrev pub decreases-reads : goal.decreases-reads
decreases-reads g l = length l.initial.buf - l.at
