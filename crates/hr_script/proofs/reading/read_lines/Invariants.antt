use Rattle.std.proofs.Common.{◌≤◌, ◌+◌, length}
use Rattle.hr_script.specs.Text.{lines_of}
use Rattle.hr_script.proofs.ReadingLemmas.{WereRead}
use Rattle.hr_script.proofs.reading.read_lines.Given as goal

abbrev pub invariant-loop-left : goal.invariant-loop-left
invariant-loop-left l = record {
  were : WereRead (lines_of l.text) l.number l.progress (lines_of l.left) l.lines;
  few : l.number + length l.left ≤ length l.text;
}

abbrev pub decreases-loop-left : goal.decreases-loop-left
decreases-loop-left l = length l.left
