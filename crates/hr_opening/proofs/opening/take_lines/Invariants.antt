use Rattle.std.proofs.Common.{◌≡◌, length}
use Rattle.std.specs.Vec.Iter.{into_iter_items}
use Rattle.hr_opening.proofs.TakenLemmas.{Taken}
use Rattle.hr_opening.proofs.opening.take_lines.Given as goal

abbrev pub invariant-loop-number : goal.invariant-loop-number
invariant-loop-number l = record {
  eight : length l.setups ≡ 8;
  taken : Taken l.initial.setups l.fn.lines l.setups l.events (into_iter_items l.number-iterator);
}
