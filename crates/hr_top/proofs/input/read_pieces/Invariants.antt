use Rattle.std.proofs.Common.{◌≡◌, ◌≤◌, ◌+◌, ◌-◌, length}
use Rattle.hr_cause.specs.Stream.{Gave}
use Rattle.hr_script.specs.declared.reading.TheConstants.{SCRIPT_LIMIT}
use Rattle.hr_top.proofs.input.read_pieces.Given as goal

-- the bytes came from the front of the input, at most one more than a script may have
abbrev pub invariant-loop-bytes : goal.invariant-loop-bytes
invariant-loop-bytes g l = record {
  told : Gave (g.S.Stream.left l.initial.input) l.bytes.items (g.S.Stream.left l.input);
  calm : g.S.Counted.faults l.input ≡ g.S.Counted.faults l.initial.input;
  short : length l.bytes.items ≤ SCRIPT_LIMIT + 1;
}

abbrev pub decreases-loop-bytes : goal.decreases-loop-bytes
decreases-loop-bytes g l = SCRIPT_LIMIT + 1 - length l.bytes.items
